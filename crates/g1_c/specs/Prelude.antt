-- What the crate takes from the libraries below it.
pub use Rattle.std.proofs.Common.{arith, MutBor, refl, rules, subst, sym, ◌∙◌}
pub use Rattle.std.specs.Fn.{FnOnceReturnsAtMut}
pub use Rattle.std.specs.Prelude.{Err, IsSome, length, None, Ok, Option, Result, List, Some, take}
pub use Rattle.std.specs.Prelude.{ℕ}
pub use Rattle.g1_core.specs.Calls.{DoesCopy, TellsMembers, TellsPending, TellsStatus, TellsTarget}
pub use Rattle.g1_core.specs.Machine.{Machine, new_machine}
pub use Rattle.g1_core.specs.declared.reply.ClearReply.{ClearReply}
pub use Rattle.g1_core.specs.declared.reply.ClearReply.TheVariants.{Cleared, Pending}
pub use Rattle.g1_core.specs.declared.reply.ClearReply.TheVariants.{StillReferenced}
pub use Rattle.g1_handles.proofs.CalledLemmas.{called_ok, called_same, called_why}
pub use Rattle.g1_handles.proofs.Kept.{kept_same}
pub use Rattle.g1_handles.proofs.VisitLemmas.{role_of, role_ok, role_why, visit_same, visit_so}
pub use Rattle.g1_handles.specs.AtPause.{DrainsRegion, RefersOut, StoresAllAt, StoresRowAt}
pub use Rattle.g1_handles.specs.AtPause.{IsCalled, IsHeapRefused, HasFirst}
pub use Rattle.g1_handles.specs.Replies.{AreStoresOf, IsFaultAt, made_all, AreOnlyRead, ClearsTo}
pub use Rattle.g1_handles.specs.Replies.{DrainsTo, FitIn, IsWritten, RedirectsTo, RefersTo}
pub use Rattle.g1_handles.specs.Replies.{RefinesTo, reply_of, StoresTo, CopiesWithin}
pub use Rattle.g1_handles.specs.Codes.{cleared_of, Between, IsRefusal, IsStoreOf, IsVisit}
pub use Rattle.g1_handles.specs.Codes.{layout_of, OfKind, OfOpen, reference_of, refusal_word}
pub use Rattle.g1_handles.specs.Codes.{settings_of}
pub use Rattle.g1_handles.specs.Racing.{stored_as, held_racers, held_readers, held_sweepers}
pub use Rattle.g1_handles.specs.Racing.{OfRacer, OfRole, OfSweeper, Racing, racing_in, Stores}
pub use Rattle.g1_handles.specs.Racing.{StoresData, Sweeps, TakesLog}
pub use Rattle.g1_handles.specs.Refusals.{LacksCard, LacksPair, LacksPlace, LacksRanges}
pub use Rattle.g1_handles.specs.Refusals.{LacksRegion, LacksRow, LacksSlot, LacksSomeRegion}
pub use Rattle.g1_handles.specs.Refusals.{SaysNoData, SaysNoMove, AreMembersRefused}
pub use Rattle.g1_handles.specs.Refusals.{AreStoresRefused, CanStore, IsCallRefused, IsDrainRefused}
pub use Rattle.g1_handles.specs.Refusals.{IsOpenRefused, IsRedirectRefused, IsRefinementRefused}
pub use Rattle.g1_handles.specs.Refusals.{IsRoleRefused, IsSweepRefused, SaysNoParty, SaysNoStore}
pub use Rattle.g1_handles.specs.Refusals.{SaysNotOpen}
pub use Rattle.g1_handles.specs.Life.{HasNewParties, IsCloseRefused, IsHeapOpenRefused, IsNewHeap}
pub use Rattle.g1_handles.specs.Life.{IsPauseRefused, IsResumeRefused, IsSameHeap, OfHeap, OfPaused}
pub use Rattle.g1_handles.specs.Life.{SaysNoHeap, SaysNotPaused}
pub use Rattle.g1_handles.specs.Phases.{AreOnlyItsOwn, AreOnlyItsReaders, BeginsReading}
pub use Rattle.g1_handles.specs.Phases.{ComesToPause, EndsReading, HoldSame, Resumes}
pub use Rattle.g1_handles.specs.Own.{RacerParty, ReaderParty}
pub use Rattle.g1_handles.specs.Queries.{Checks, Finds, Overflows, TellsNextInto, TellsNextMember}
pub use Rattle.g1_handles.specs.Queries.{TellsWord}
pub use Rattle.g1_handles.specs.RaceStores.{Exchanges, FindsOther, IsFullAt, StoresAll, Swaps}
pub use Rattle.g1_handles.specs.RaceStores.{StoresRow, CanStoreWord, FindsOtherWord, MayHave}
pub use Rattle.g1_handles.specs.RaceStores.{SaysBadWord, SaysNoWordStore, SwapsWord}
pub use Rattle.g1_handles.specs.Readers.{IsReadEndRefused, IsReadRefused, OfReader, ReaderAt}
pub use Rattle.g1_handles.specs.Readers.{reader_layout, reading_in, ReadsPair, table_of_reader}
pub use Rattle.g1_handles.specs.declared.code.Reason.{Reason}
pub use Rattle.g1_handles.specs.declared.heap.racing_heap.RacingHeap.{RacingHeap}
pub use Rattle.g1_handles.specs.declared.party.Party.{Party}
pub use Rattle.g1_handles.specs.declared.party.Role.{Ghosts}
pub use Rattle.g1_layout.specs.Shape.{slot_count}
pub use Rattle.g1_layout.specs.declared.kind.Kind.{Kind}
pub use Rattle.g1_race.specs.Calls.{ClearsAt, Copies, Forgets, Redirects, Refines, StoresAt}
pub use Rattle.g1_race.specs.Calls.{StoresDataAt, Wipes}
pub use Rattle.g1_race.specs.Freeing.{FreesAt}
pub use Rattle.g1_race.specs.Parties.{race_layout, race_words}
pub use Rattle.g1_race.specs.Over.{Pause, start_at, table_at}
pub use Rattle.g1_race.specs.Reading.{IsNextPending}
pub use Rattle.g1_handles.specs.declared.handles.Handle.{Handle}
pub use Rattle.g1_handles.specs.declared.handles.HeapHandle.{HeapHandle}
pub use Rattle.g1_handles.specs.declared.handles.RacerHandle.{RacerHandle}
pub use Rattle.g1_handles.specs.declared.handles.ReaderHandle.{ReaderHandle}
