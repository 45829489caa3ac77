-- What the crate takes from the libraries below it.
pub use Rattle.std.proofs.BufReadLemmas.{Consumes_shown}
pub use Rattle.std.proofs.Common.{add-one, add-zero, ap, append-nil, append_assoc, arith, cond}
pub use Rattle.std.proofs.Common.{Contains, drop, drop-cons, eqb, false, get_or, inl, inr, length}
pub use Rattle.std.proofs.Common.{length-take-le, List, map, nat_lt, None, Option, refl, rules, set}
pub use Rattle.std.proofs.Common.{Some, subst, suc, sym, take, true, vec_capacity, vec_len}
pub use Rattle.std.proofs.Common.{zero-add, ℕ, ⊎_elim, ◌∙◌}
pub use Rattle.std.proofs.KnownBytes.{Appends-nil, Appends-trans, Consumes-nil, Consumes-trans}
pub use Rattle.std.proofs.Math.Nat.{add_assoc}
pub use Rattle.std.proofs.Props.{props}
pub use Rattle.std.proofs.lemmas.Bool.{cases_Bool, cond-false, cond-true, eq-eqb, eqb-true}
pub use Rattle.std.proofs.lemmas.Bool.{false≢true, le-ltb, lt-ltb, ne_eqb, true≢false}
pub use Rattle.std.proofs.lemmas.List.{drop-take, get_or-map, get_or-set_other, get_or-set_same}
pub use Rattle.std.proofs.lemmas.List.{length-append, length-drop, length-map, length-set}
pub use Rattle.std.proofs.lemmas.List.{take-append-drop, take-take, take_more}
pub use Rattle.std.proofs.lemmas.List.Concat.{flat_map-append}
pub use Rattle.std.proofs.lemmas.List.Elements.{All-cons, All-head, All-nil, All-pop}
pub use Rattle.std.proofs.lemmas.List.Elements.{All-push, All-rest, All-same, All-set, All-tail}
pub use Rattle.std.proofs.lemmas.List.Elements.{filter_map-append, length_all_zip}
pub use Rattle.std.proofs.lemmas.List.Sums.{count_by-le-length, sum_by-append, sum_by-cons}
pub use Rattle.std.proofs.lemmas.List.Sums.{sum_by-set, sum_by_push}
pub use Rattle.std.proofs.lemmas.Result.{err_from_is_err_and}
pub use Rattle.std.specs.Io.BufRead.{FillKeeps}
pub use Rattle.std.specs.Io.KnownBytes.{Appends, Consumes, IsAtEnd}
pub use Rattle.std.specs.Iterator.{YieldsFirst}
pub use Rattle.std.specs.List.{AllZip, cons_option, filter_map, flat_map}
pub use Rattle.std.specs.Option.{option_or}
pub use Rattle.std.specs.Prelude.{[], All, Bool, codes, count_by, Err, IfErr, IfNone, IfOk, IfSome}
pub use Rattle.std.specs.Prelude.{IsErrAnd, IsNone, IsSome, MatchResult, Ok, OnErr, OnOk}
pub use Rattle.std.specs.Prelude.{option_to_list, Result, slice_index, slice_index_or, sum_by}
pub use Rattle.std.specs.Prelude.{unwrap_or, zero}
pub use Rattle.std.specs.Prelude.{replicate, filter}
pub use Rattle.std.specs.Vec.Iter.{into_iter_items, into_iter_len}
pub use Rattle.arrayvec.specs.ArrayVec.{array_vec_len}
pub use Rattle.g1_core.specs.Adoption.{IsPairOf}
pub use Rattle.g1_core.specs.Calls.{drain_entry, drain_reply, refine_entry, store_entry}
pub use Rattle.g1_core.specs.Machine.{Machine, State}
pub use Rattle.g1_core.specs.Run.{IsPermitted, IsStep}
pub use Rattle.g1_core.specs.Table.{held, Holds, IsCovered, IsRecorded, opening, refined, Table}
pub use Rattle.g1_core.specs.declared.config.Settings.{Settings}
pub use Rattle.g1_core.specs.declared.entry.Call.TheVariants.{Drain, Redirect}
pub use Rattle.g1_core.specs.declared.entry.Entry.{Entry}
pub use Rattle.g1_core.specs.declared.entry.Reply.{Reply}
pub use Rattle.g1_core.specs.declared.reply.Drained.{Drained}
pub use Rattle.g1_core.specs.declared.reply.Drained.TheVariants.{Cards, Short}
pub use Rattle.g1_core.specs.declared.reply.Fill.{Fill}
pub use Rattle.g1_core.specs.declared.reply.Fill.TheVariants.{Full, Helped, No}
pub use Rattle.g1_core.specs.declared.reply.RefineReply.{RefineReply}
pub use Rattle.g1_core.specs.declared.reply.StoreReply.{StoreReply}
pub use Rattle.g1_history.specs.Asked.{MakesAsked}
pub use Rattle.g1_history.specs.History.{BookTerms, History, IsHistory, is_store, layout_in, opened}
pub use Rattle.g1_history.specs.History.{terms_of}
pub use Rattle.g1_history.specs.declared.refusal.Refusal.{Refusal}
pub use Rattle.g1_layout.specs.Shape.{card_count, card_of, region_of, region_of_card, Shape}
pub use Rattle.g1_layout.specs.Shape.{slot_count}
pub use Rattle.g1_layout.specs.declared.kind.Kind.{Kind}
pub use Rattle.g1_layout.specs.declared.kind.Kind.TheVariants.{Logged}
pub use Rattle.g1_log.specs.Ends.{capacity_of, IsNewTaker, IsSameSender, IsSameTaker, IsSenderOf}
pub use Rattle.g1_log.specs.Ends.{IsTakerOf, line_home, put_of, sender_home, sender_rights}
pub use Rattle.g1_log.specs.Ends.{taken_of, taker_home, taker_rights}
pub use Rattle.g1_log.specs.Line.{whole as line_rights}
pub use Rattle.g1_log.specs.declared.ends.Sender.{Sender}
pub use Rattle.g1_log.specs.declared.ends.Taker.{Taker}
pub use Rattle.g1_log.specs.declared.line.Line.{Line}
pub use Rattle.g1_options.specs.declared.options.Options.{Options}
pub use Rattle.g1_race.specs.Parties.{AreFreshRacers, AreFreshSweepers, HaveBegun, IsFreshRacer}
pub use Rattle.g1_race.specs.Parties.{IsFreshSweeper, null_begun, race_begun, race_id, race_layout}
pub use Rattle.g1_race.specs.Parties.{race_shape, racer_race, racer_start, racer_view, sweeper_race}
pub use Rattle.g1_race.specs.Parties.{sweeper_start, sweeper_view}
pub use Rattle.g1_race.specs.Over.{core_of, Ended, refs_of, table_of, target_of_word}
pub use Rattle.g1_race.specs.Race.{Among, AmongStores, IsKnown, IsOver, shape_of, word_of}
pub use Rattle.g1_race.specs.declared.race.Race.{Race}
pub use Rattle.g1_race.specs.declared.race.Racer.{Racer}
pub use Rattle.g1_race.specs.declared.race.Sweeper.{Sweeper}
pub use Rattle.g1_race_words.proofs.Places.{contains_in, in_contains, reads_as}
pub use Rattle.g1_race_words.proofs.Plain.{in_either, read_at}
pub use Rattle.g1_race_words.specs.Begin.{Begun, Start}
pub use Rattle.g1_race_words.specs.Rule.{BeganInto, beginning, histories_of, In, last_to, null_of}
pub use Rattle.g1_race_words.specs.Rule.{StoreHistory}
pub use Rattle.g1_race_words.specs.Steps.{gains_store}
pub use Rattle.g1_race_words.specs.declared.view.View.{View}
pub use Rattle.g1_shared.specs.Callers.{AreMadeBy, CallerState, IsCallerOf}
pub use Rattle.g1_shared.specs.Counts.{CallerCounts, kept_terms, made_by, shared_terms}
pub use Rattle.g1_shared.specs.Counts.{stored_by}
pub use Rattle.g1_shared.specs.Did.{most_for}
pub use Rattle.g1_shared.specs.Prelude.{entries_by}
pub use Rattle.g1_steps.proofs.StepLemmas.{grows_none, grows_then}
pub use Rattle.g1_steps.specs.Ask.{Ask, AskFlush, asks_in, asks_of, AskStore, AskWork, is_store_ask}
pub use Rattle.g1_steps.specs.Ask.{JobRan, Ran, ScriptFits, StepFits}
pub use Rattle.g1_steps.specs.Lent.{Grows, IsBookCall}
pub use Rattle.g1_steps.specs.Made.{AreCalls, CallMade, entries_made, Refined, Stored}
pub use Rattle.g1_steps.specs.Opening.{AreNewMutators}
pub use Rattle.g1_steps.specs.Rounds.{IsRound, IsWorkStep, replies_of, round_calls, round_size}
pub use Rattle.g1_steps.specs.Rounds.{Turn}
pub use Rattle.g1_steps.specs.Served.{ServesAll, was_made}
pub use Rattle.g1_steps.specs.Steps.{called, Empties, filled, flush_answer, Help, help_calls}
pub use Rattle.g1_steps.specs.Steps.{IsFlushStep, IsRefineStep, IsStopped, IsStored, IsStoreStep}
pub use Rattle.g1_steps.specs.Steps.{nothing_flushed, PutsBy, store_answer}
pub use Rattle.g1_steps.specs.declared.crew.desk.Script.{Script}
pub use Rattle.g1_steps.specs.declared.crew.desk.Script.TheVariants.{Mutate, Refine}
pub use Rattle.g1_steps.specs.declared.crew.desk.Step.{Step}
pub use Rattle.g1_steps.specs.declared.crew.job.Job.{Job}
pub use Rattle.g1_steps.specs.declared.steps.mutator.FlushReply.{FlushReply}
pub use Rattle.g1_steps.specs.declared.steps.mutator.Mutator.{Mutator}
pub use Rattle.g1_trace.proofs.PutLemmas.{front_more, front_then, puts_none, puts_then}
pub use Rattle.g1_trace.specs.Bytes.{AppendsFront, Puts}
pub use Rattle.g1_trace.specs.Grammar.{IsCommandCall, IsCommandOf, read_command}
pub use Rattle.g1_trace.specs.Text.{book_full_line, call_line, drained_line, fault_line}
pub use Rattle.g1_trace.specs.Text.{flushed_line, no_memory_line, no_thread_line, read_failed_line}
pub use Rattle.g1_trace.specs.Text.{refine_text, refined_line, store_text, stored_line, stores_text}
pub use Rattle.g1_trace.specs.Text.{work_text, worked_line}
pub use Rattle.g1_trace.specs.Trace.{after_line, at_end, before, faulty, read_line, read_on}
pub use Rattle.g1_trace.specs.Trace.{read_trace}
pub use Rattle.g1_trace.specs.Words.{IsPart}
pub use Rattle.g1_trace.specs.declared.command.Command.{Command}
pub use Rattle.g1_trace.specs.declared.command.Command.TheVariants.{Call, Flush, Store}
pub use Rattle.g1_trace.specs.declared.dialect.Dialect.{Dialect}
pub use Rattle.g1_trace.specs.declared.fault.TraceFault.{TraceFault}
pub use Rattle.g1_trace.specs.declared.fault.TraceFault.TheVariants.{Cut, NoHeader, TooLong}
pub use Rattle.g1_trace.specs.declared.mode.Mode.{Mode}
pub use Rattle.g1_trace.specs.declared.mode.Mode.TheVariants.{Run}
pub use Rattle.memchr.specs.Find.{is_byte}
unfoldable pub use Rattle.memchr.specs.Find.{places_from}
pub use Rattle.g1_replay.specs.declared.end.End.{End}
pub use Rattle.g1_replay.specs.declared.end.End.TheVariants.{ReadFailed as EndReadFailed, Refused}
pub use Rattle.g1_replay.specs.declared.end.End.TheVariants.{Stopped, Whole}
pub use Rattle.g1_replay.specs.declared.end.End.TheVariants.{WriteFailed as EndWriteFailed}
pub use Rattle.g1_replay.specs.declared.stop.Stop.{Stop}
pub use Rattle.g1_replay.specs.declared.stop.Stop.TheVariants.{BookFull, Fault, NoMemory, NoThread}
pub use Rattle.g1_replay.specs.declared.stop.Stop.TheVariants.{ReadFailed, WriteFailed}
