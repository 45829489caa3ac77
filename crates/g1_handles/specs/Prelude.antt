-- What the crate takes from the libraries below it.
pub use Rattle.std.proofs.Common.{[], ap, arith, Box, inl, inr, List, lit<, map, refl, rules, set}
pub use Rattle.std.proofs.Common.{slice_index_or, subst, suc, sym, take, ℕ, ◌∙◌}
pub use Rattle.std.proofs.Math.ListN.{get_or-map}
pub use Rattle.std.proofs.Math.Seq.{map-set_same, take-suc}
pub use Rattle.std.proofs.Props.{props}
pub use Rattle.std.proofs.lemmas.Bool.{cases_lt, eqb-false, eqb-true, not-true}
pub use Rattle.std.proofs.lemmas.Grind.{common_steps}
pub use Rattle.std.proofs.lemmas.List.{drop-set-lt, get_or-set_other, get_or-set_same, get_or-take}
pub use Rattle.std.proofs.lemmas.List.{get_or_default, length-map, length-set, length_push}
pub use Rattle.std.proofs.lemmas.List.{map-append, take_more_set}
pub use Rattle.std.proofs.lemmas.List.Elements.{All-contains, All-from_all_within, All-map}
pub use Rattle.std.proofs.lemmas.List.Elements.{All-more, All-nil, All-push, All-take}
pub use Rattle.std.proofs.lemmas.List.Elements.{AllWithin-more_set, AllWithin-upto}
pub use Rattle.std.specs.Arc.{arc_value}
pub use Rattle.std.specs.Coded.{coded_option}
pub use Rattle.std.specs.Fn.{FnOnceReturnsAtMut}
pub use Rattle.std.specs.Global.{Global}
pub use Rattle.std.specs.List.{AllWithin}
pub use Rattle.std.specs.Option.{ForSome}
pub use Rattle.std.specs.Prelude.{All, Any, Bool, drop, Err, false, fold, IfErr, IfNone, IfOk}
pub use Rattle.std.specs.Prelude.{IfSome, IsErrAnd, IsOk, IsSome, IsSomeAnd, IsTrue, length}
pub use Rattle.std.specs.Prelude.{MatchOption, None, not, Ok, OnErr, OnOk, Option, replicate}
pub use Rattle.std.specs.Prelude.{Result, slice_set, Some, SomeIff, Vec, vec_capacity, vec_len, ⊤}
pub use Rattle.std.specs.contracts.impls.GlobalAllocator.TheImpl.{ghosts}
pub use Rattle.std_alloc.specs.Box.Ownership.{box_owns}
pub use base.Fml.{feq, fex, flft, Fml, fsep, ftrue}
pub use base.Logic.{emp, ent, fst∗, guard, guard_i, id⊢, never, sep, snd∗, SProp, via}
pub use contract.Monad.{fact, fact_i, fact_use}
pub use contract.Running.{tables}
pub use denote.Builtin.{RawPtr}
pub use denote.RawPtr.{block_ptr, in_a_block, lies_at, null_ptr, Ptr, ptr_val, Testable, tests_null}
pub use lib.Dec.{T}
pub use lib.ListN.{get_elem?}
pub use mathlib.Core.Bool.{true}
pub use mathlib.Core.HLevel.{is_prop→PathP}
pub use prog.Wp.{Calls, Loops, WpFn}
pub use seplogic.Ra.Ura.{Ura}
pub use Rattle.arrayvec.specs.ArrayVec.{array_vec_len}
pub use Rattle.atomic_table.specs.Seated.{TableId}
pub use Rattle.g1_core.specs.Barrier.{logged_card, stored_machine, unfilled}
pub use Rattle.g1_core.specs.Calls.{clear_entry, DoesClear, DoesCopy, DoesDrain, DoesRefine}
pub use Rattle.g1_core.specs.Calls.{DoesStore, DoesTarget, drain_cards, drain_entry, drain_refined}
pub use Rattle.g1_core.specs.Calls.{redirect_entry, redirect_refined, refine_entry, store_entry}
pub use Rattle.g1_core.specs.Calls.{target_entry, TellsMembers, TellsPending, TellsStatus}
pub use Rattle.g1_core.specs.Calls.{TellsTarget}
pub use Rattle.g1_core.specs.Machine.{IsLater, IsOnlyRead, IsSound, Machine, machine_code}
pub use Rattle.g1_core.specs.Machine.{new_machine, State}
pub use Rattle.g1_core.specs.Prelude.{reads_after}
pub use Rattle.g1_core.specs.Redirect.{DoesRedirect}
pub use Rattle.g1_core.specs.Run.{drained, IsStep, kind_of, stored}
pub use Rattle.g1_core.specs.Settings.{AreSettings}
pub use Rattle.g1_core.specs.Table.{AreMembers, AreRefinable, Crosses, IsPending, IsRecorded}
pub use Rattle.g1_core.specs.Table.{opening, Table, target_of}
pub use Rattle.g1_core.specs.Verify.{Differs, IsFirst, IsMissing, looked_for}
pub use Rattle.g1_core.specs.declared.config.Settings.{Settings}
pub use Rattle.g1_core.specs.declared.reply.ClearReply.{ClearReply}
pub use Rattle.g1_core.specs.declared.reply.ClearReply.TheVariants.{Cleared, Pending}
pub use Rattle.g1_core.specs.declared.reply.ClearReply.TheVariants.{StillReferenced}
pub use Rattle.g1_core.specs.declared.reply.Drained.{Drained}
pub use Rattle.g1_core.specs.declared.reply.Status.{Status}
pub use Rattle.g1_layout.proofs.ShapeLemmas.{card_count_limit, region_of-offset}
pub use Rattle.g1_layout.specs.Shape.{card_count, card_of, IsShape, region_of, Shape, slot_count}
pub use Rattle.g1_layout.specs.declared.kind.Kind.{Kind}
pub use Rattle.g1_layout.specs.declared.kind.Kind.TheVariants.{AlreadyDirty, Logged, Null}
pub use Rattle.g1_layout.specs.declared.kind.Kind.TheVariants.{SameRegion}
pub use Rattle.g1_race.specs.Calls.{ClearsAt, Copies, Forgets, Redirects, Refines, StoresAt}
pub use Rattle.g1_race.specs.Calls.{StoresDataAt, StoresWordAt, Wipes}
pub use Rattle.g1_race.specs.CollectionSet.{IsNextInto}
pub use Rattle.g1_race.specs.Evacuating.{forgotten, IsExactAtPause, IsRaceWith, IsSameRace}
pub use Rattle.g1_race.specs.Evacuating.{one_word, SlotsBecome, wiped}
pub use Rattle.g1_race.specs.Freeing.{FreesAt}
pub use Rattle.g1_race.specs.Parties.{HasCleaned, HasDiffered, HasNotStored, HasOverwritten}
pub use Rattle.g1_race.specs.Parties.{HasStored, is_logged, IsKind, IsNewRacer, IsNewSweeper}
pub use Rattle.g1_race.specs.Parties.{IsPauseOf, race_id, race_layout, race_shape, race_words}
pub use Rattle.g1_race.specs.Parties.{racer_log, racer_race, racer_view, sweeper_race}
pub use Rattle.g1_race.specs.Parties.{sweeper_start, sweeper_view}
pub use Rattle.g1_race.specs.Over.{ended, Pause, start_at, table_at, table_of}
pub use Rattle.g1_race.specs.Race.{stored_view, word_of}
pub use Rattle.g1_race.specs.Reading.{IsNextMember, IsNextPending, IsReaderOf, Known, known}
pub use Rattle.g1_race.specs.Reading.{reader_race, table_read}
pub use Rattle.g1_race.specs.Telling.{marked_cards}
pub use Rattle.g1_race.specs.declared.race.Race.{Race}
pub use Rattle.g1_race.specs.declared.race.Racer.{Racer}
pub use Rattle.g1_race.specs.declared.race.Sweeper.{Sweeper}
pub use Rattle.g1_race_words.specs.Begin.{Start}
pub use Rattle.g1_race_words.specs.Rule.{beginning, crosses, IsWord, null_of, slot_card}
pub use Rattle.g1_race_words.specs.Seats.{IsFound}
pub use Rattle.g1_race_words.specs.declared.view.View.{View}
