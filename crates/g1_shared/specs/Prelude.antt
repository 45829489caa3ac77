-- What the crate takes from the libraries below it.
pub use Rattle.std.proofs.Common.{ap, append-nil, append_assoc, arith, get_or, inl, inr}
pub use Rattle.std.proofs.Common.{length-append, map, None, refl, rules, Some, subst, sym, vec_len}
pub use Rattle.std.proofs.Common.{◌∙◌}
pub use Rattle.std.proofs.lemmas.List.{get_or_append_left, get_or_push, length-map}
pub use Rattle.std.proofs.lemmas.List.Sums.{count_by-le-length, fold-append, sum_by-append}
pub use Rattle.std.specs.Prelude.{[], All, Bool, cond, count_by, Err, false, fold, IfErr, IfOk}
pub use Rattle.std.specs.Prelude.{IfSome, IsNone, IsSome, length, List, nat_lt, Ok, OnErr, OnOk}
pub use Rattle.std.specs.Prelude.{Option, option_map, option_to_list, Result, slice_index_or}
pub use Rattle.std.specs.Prelude.{sum_by, true, vec_capacity, ℕ}
pub use Rattle.std.specs.Vec.Iter.{into_iter_items, into_iter_len}
pub use Rattle.g1_core.specs.Barrier.{buffer_of, logged}
pub use Rattle.g1_core.specs.Calls.{clear_entry, DoesClear, DoesDrain, DoesRefine, DoesStore}
pub use Rattle.g1_core.specs.Calls.{drain_entry, IsLent, redirect_entry, refine_entry, store_entry}
pub use Rattle.g1_core.specs.Machine.{IsSound, Machine, State}
pub use Rattle.g1_core.specs.Redirect.{DoesRedirect}
pub use Rattle.g1_core.specs.Run.{IsAllowed, IsPermitted, IsStep, kind_of, table_after}
pub use Rattle.g1_core.specs.Table.{Table}
pub use Rattle.g1_core.specs.declared.entry.Call.{Call}
pub use Rattle.g1_core.specs.declared.entry.Entry.{Entry}
pub use Rattle.g1_core.specs.declared.entry.Reply.{Reply}
pub use Rattle.g1_core.specs.declared.reply.Fill.TheVariants.{Full, Helped, No}
pub use Rattle.g1_core.specs.declared.reply.RefineReply.{RefineReply}
pub use Rattle.g1_core.specs.declared.reply.StoreReply.{StoreReply}
pub use Rattle.g1_history.specs.Asked.{asked_entry, IsAsked, MakesAsked}
pub use Rattle.g1_history.specs.History.{AnswersBy, History, history_code, IsEnteredBy, IsFull}
pub use Rattle.g1_history.specs.History.{IsKept, layout_in, made_of, MakesCall, opened, stored_of}
pub use Rattle.g1_history.specs.History.{stores_by, table_in, totals_with, BookTerms, terms_of}
pub use Rattle.g1_history.specs.History.{CallTotals}
pub use Rattle.g1_history.specs.History.{is_store}
pub use Rattle.g1_history.specs.declared.refusal.Refusal.{Refusal}
pub use Rattle.g1_layout.specs.Shape.{card_count, card_of, Shape, slot_count}
pub use Rattle.g1_layout.specs.declared.kind.Kind.{Kind}
pub use Rattle.g1_log.specs.Ends.{AreAll, capacity_of, IsNewTaker, line_home, put_of}
pub use Rattle.g1_log.specs.Ends.{sender_rights, taken_of, taker_rights}
pub use Rattle.g1_log.specs.Line.{whole}
pub use Rattle.g1_log.specs.declared.ends.Taker.{Taker}
pub use Rattle.g1_log.specs.declared.line.Line.{Line}
pub use Rattle.g1_log.specs.declared.parcel.Parcel.{Parcel}
pub use Rattle.g1_steps.specs.Ask.{Ask, AskFlush, AskStore, AskWork, is_store_ask}
pub use Rattle.g1_records.specs.Records.{gained, own_record, Recorded, recorded}
pub use Rattle.g1_records.specs.Views.{entries_by}
pub use Rattle.g1_steps.specs.Made.{CallMade, entries_made, Refined, Refused, Stored}
pub use Rattle.g1_steps.specs.Opening.{AreNewMutators, IsNewMutator}
pub use Rattle.g1_steps.specs.Rounds.{IsRound, round_calls, round_size, Turn, turn_call}
pub use Rattle.g1_steps.specs.Served.{HasServed, served_then}
pub use Rattle.g1_steps.specs.Steps.{Empties, GainsAtMost, Help, help_calls, IsStored, MayRefuse}
pub use Rattle.g1_steps.specs.Steps.{store_answer}
pub use Rattle.g1_steps.specs.declared.steps.mutator.Mutator.{Mutator}
