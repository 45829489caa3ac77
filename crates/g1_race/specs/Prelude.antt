-- What the crate takes from the libraries below it.
pub use Rattle.std.proofs.Common.{[], All, ap, arith, below_more, bit_and, bit_or, Bool, cond}
pub use Rattle.std.proofs.Common.{Contains, div-add-mod', div-lt_iff_lt-mul, drop, eq-eqb, eqb}
pub use Rattle.std.proofs.Common.{false, get_or, inl, inr, leb, length, length-set, List}
pub use Rattle.std.proofs.Common.{ltb-true, map, mod-lt, mul-le-mul_right, ne_eqb, None, not}
pub use Rattle.std.proofs.Common.{Option, refl, replicate, set, Some, subst, suc, suc-mul, sym}
pub use Rattle.std.proofs.Common.{take, true, vec_capacity, w64, zero, ℕ, ⊎_elim, ◌∙◌}
pub use Rattle.std.proofs.Math.Nat.{div-div-eq-div-mul, div-le_self, mul-div_cancel_left}
pub use Rattle.std.proofs.Math.Nat.{mul-le-mul, mul-le-mul_left}
pub use Rattle.std.proofs.Math.Seq.{map-set_same, take-append_seam, take-set-lt}
pub use Rattle.std.proofs.lemmas.Bool.{and_from, and_left, and_parts, cases_Bool}
pub use Rattle.std.proofs.lemmas.Bool.{cases_eq, cases_lt, eqb-false, eqb-true, false_from_ne_true}
pub use Rattle.std.proofs.lemmas.Bool.{le-ltb, leb-false, leb-true, lt-ltb}
pub use Rattle.std.proofs.lemmas.Bool.{not-false, not-true, or_cases, or_left, or_right, true≢false}
pub use Rattle.std.proofs.lemmas.Cmp.{eq_by_cmp_equiv, nat_cmp_total}
pub use Rattle.std.proofs.lemmas.List.{append-nil, get_or-map, get_or-set_other, get_or-set_same}
pub use Rattle.std.proofs.lemmas.List.{get_or_append_left, get_or_default, get_or_past, get_or_push}
pub use Rattle.std.proofs.lemmas.List.{length-drop, length-map, length-replicate, length-take}
pub use Rattle.std.proofs.lemmas.List.{length-take-le, length_push, map-append, map-set}
pub use Rattle.std.proofs.lemmas.List.{take-set-le, take_more}
pub use Rattle.std.proofs.lemmas.List.Elements.{All-push, AllWithin-more_set, Contains-append_left}
pub use Rattle.std.proofs.lemmas.List.Elements.{Contains-get_or, Contains-push, Contains-push_cases}
pub use Rattle.std.proofs.lemmas.List.Sums.{count_by_more_no, count_by_more_yes, sum_by_push}
pub use Rattle.std.proofs.lemmas.Map.Lookups.{exact_unsigned}
pub use Rattle.std.proofs.lemmas.Nat.{div-mul-add, mul-add-lt, pow-add}
pub use Rattle.std.proofs.lemmas.Nat.Bits.{bit_at-trailing_zeros, bit_at-zero, bit_at_above}
pub use Rattle.std.proofs.lemmas.Nat.Bits.{bit_at_clear_other, bit_at_clear_same, shr_and_one}
pub use Rattle.std.specs.Arc.{arc_value}
pub use Rattle.std.specs.Cmp.{Equal-is}
pub use Rattle.std.specs.Global.{Global}
pub use Rattle.std.specs.Int.{bit_at, bit_not, trailing_zeros}
pub use Rattle.std.specs.List.{AllWithin, enumerate_from, filter_map, flat_map}
unfoldable pub use Rattle.std.specs.List.{IsDistinct}
pub use Rattle.std.specs.List.Sorted.{IsStrictlyIncreasing}
pub use Rattle.std.specs.Ordering.{eq_by_cmp, nat_cmp}
pub use Rattle.std.specs.Prelude.{count_by, fold, IfErr, IfOk, IfSome, IsTrue}
pub use Rattle.std.specs.Prelude.{MatchOption, nat_eq}
pub use Rattle.std.specs.Prelude.{nat_le, nat_lt, OnErr, OnOk, slice_index, slice_index_or}
pub use Rattle.std.specs.Prelude.{slice_set, sum_by, Vec, vec_len}
pub use Rattle.std.specs.Slots.{IsFull, slots_items, slots_len}
pub use denote.RawPtr.{Ptr}
pub use lib.ListN.{get_elem?}
pub use mathlib.Core.Option.{some, some-injective}
pub use native.Mathlib.Decide.{ℕ_discrete}
pub use Rattle.arrayvec.specs.ArrayVec.{array_vec_len}
pub use Rattle.atomic_table.proofs.Lists.{at_map, at_set, set_again, set_else, set_here}
pub use Rattle.atomic_table.specs.Seated.{TableId}
pub use Rattle.atomic_table.specs.Table.{Me}
pub use Rattle.atomic_table.specs.declared.shared.Seat.{Seat}
pub use Rattle.g1_core.proofs.AdoptionLemmas.{flag_pending, pending_flag}
pub use Rattle.g1_core.proofs.CopyLemmas.{copied_all, copied_on, first_of, table_down, table_up}
pub use Rattle.g1_core.proofs.MarkLemmas.{none_of, one_more}
pub use Rattle.g1_core.proofs.QueryLemmas.{members_step, pending_step, status_step, target_step}
pub use Rattle.g1_core.proofs.RefinedLemmas.{push_distinct, refined_none}
pub use Rattle.g1_core.proofs.SetLemmas.{All_by_member, from_kept, in_list, in_pairs, Kept, listed}
pub use Rattle.g1_core.proofs.SetLemmas.{pair_exact, pair_total, same_bools, same_cards, same_pairs}
pub use Rattle.g1_core.proofs.SetLemmas.{to_kept, to_pairs, unlisted}
pub use Rattle.g1_core.proofs.StoreLemmas.{none_refinable}
pub use Rattle.g1_core.proofs.TableLemmas.{held_from_Holds, Holds_from_held, is_slot}
pub use Rattle.g1_core.proofs.TableLemmas.{newly_recorded, recorded_cases, refined_covered}
pub use Rattle.g1_core.proofs.TableLemmas.{refined_pending, slot_of, still_recorded}
pub use Rattle.g1_core.proofs.VerifyLemmas.{first_found, first_none, slot_differs, slot_same}
pub use Rattle.g1_core.specs.Adoption.{adopted_machine, IsPairOf, marks_for, table_with}
pub use Rattle.g1_core.specs.Barrier.{unfilled}
pub use Rattle.g1_core.specs.Calls.{clear_entry, drain_cards, drain_entry, drain_refined}
pub use Rattle.g1_core.specs.Calls.{redirect_entry, redirect_refined, store_entry}
pub use Rattle.g1_core.specs.Copying.{copied}
pub use Rattle.g1_core.specs.Machine.{IsSound, Machine, pending_of, State}
pub use Rattle.g1_core.specs.Calls.{TellsMembers, TellsPending, TellsStatus, TellsTarget}
pub use Rattle.g1_core.specs.Run.{drained, IsStep, kind_of, pending_after, settled, stored}
pub use Rattle.g1_core.specs.Run.{table_after, written}
pub use Rattle.g1_core.specs.Table.{AreMembers, AreRefinable, Crosses, Enters, enters, Holds}
pub use Rattle.g1_core.specs.Table.{IsCovered, IsPending, IsRecorded, moved, moved_count}
pub use Rattle.g1_core.specs.Table.{moved_pair, moved_target, opening, refined, Table, target_of}
pub use Rattle.g1_core.specs.Verify.{Differs, IsFirst, IsMissing}
pub use Rattle.g1_core.specs.declared.entry.Call.TheVariants.{Clear, Redirect, Store}
pub use Rattle.g1_core.specs.declared.entry.Entry.{Entry}
pub use Rattle.g1_core.specs.declared.reply.ClearReply.TheVariants.{Cleared, Pending}
pub use Rattle.g1_core.specs.declared.reply.ClearReply.TheVariants.{StillReferenced}
pub use Rattle.g1_core.specs.declared.reply.Redirected.TheVariants.{Moved}
pub use Rattle.g1_heap.specs.Cells.{reads_after}
pub use Rattle.g1_layout.specs.Sets.{CardSet, pair_cmp, set_of}
pub use Rattle.g1_layout.specs.Shape.{card_count, card_of, region_of, region_of_card, same_offset}
pub use Rattle.g1_layout.specs.Shape.{slot_count}
pub use Rattle.g1_layout.specs.declared.kind.Kind.{Kind}
pub use Rattle.g1_layout.specs.declared.kind.Kind.TheVariants.{AlreadyDirty, Logged, Null}
pub use Rattle.g1_layout.specs.declared.kind.Kind.TheVariants.{SameRegion}
pub use Rattle.g1_race_words.proofs.Blanks.{card_back}
pub use Rattle.g1_race_words.proofs.AtBeginning.{never_both, no_bit, zero_at, zeros, zeros_read}
pub use Rattle.g1_race_words.proofs.CoverStores.{mark_apart}
pub use Rattle.g1_race_words.proofs.Crossing.{crosses_reference, low_word, reference_crosses}
pub use Rattle.g1_race_words.proofs.Crossing.{word_low}
pub use Rattle.g1_race_words.proofs.Flags.{bit_below, flag_card, front_stays}
pub use Rattle.g1_race_words.proofs.Flags.{word_in_row}
pub use Rattle.g1_race_words.proofs.Going.{others_blank}
pub use Rattle.g1_race_words.proofs.Listing.{listed_set, one_pair, pair_clear, pair_set, set_listed}
pub use Rattle.g1_race_words.proofs.PairBits.{bit_apart, bit_as, bit_here, bits_back, bits_stay}
pub use Rattle.g1_race_words.proofs.PairBits.{card_below, card_in_row, crossing_pair, in_row}
pub use Rattle.g1_race_words.proofs.PairBits.{same_bits, SameBits, with_pair}
pub use Rattle.g1_race_words.proofs.Places.{at_drop, at_read, at_take, at_unmap, at_untake}
pub use Rattle.g1_race_words.proofs.Places.{contains_in, in_contains, reads_as, take_all, take_at}
pub use Rattle.g1_race_words.proofs.Places.{take_next, take_same}
pub use Rattle.g1_race_words.proofs.Plain.{false_is, in_either, in_left, in_right, one_there}
pub use Rattle.g1_race_words.proofs.Plain.{read_at, read_is, total_one, total_two, true_is, within}
pub use Rattle.g1_race_words.proofs.StepKinds.{runs_are_of_five, steps_are_of_five}
pub use Rattle.g1_race_words.proofs.Tallies.{tally_append, tally_in, tally_once, times_append}
pub use Rattle.g1_race_words.proofs.Unchanged.{same_slots_at_mark}
pub use Rattle.g1_race_words.specs.Begin.{Begun, Start}
pub use Rattle.g1_race_words.specs.Rule.{AnswersFor, as_number, AtRest, BeganInto, BeganMarked}
pub use Rattle.g1_race_words.specs.Rule.{beginning, bit_index, bit_word, Bounded, claims_at}
pub use Rattle.g1_race_words.specs.Rule.{claims_of, cleanings_at, cleanings_of, crosses, flag}
pub use Rattle.g1_race_words.specs.Rule.{front, HasBit, Held, held_of, histories_of, history_count}
pub use Rattle.g1_race_words.specs.Rule.{In, IsBegun, IsBlank, IsCrossing, IsFlagged, IsMarked}
pub use Rattle.g1_race_words.specs.Rule.{IsNoted, IsOfCrossing, IsPair, IsReference, IsWholeShape}
pub use Rattle.g1_race_words.specs.Rule.{IsWord, last_to, MadeDirty, mark_word, null_of, numbers}
pub use Rattle.g1_race_words.specs.Rule.{overwritten_sum, pairs_found, pairs_of_card, pairs_up_to}
pub use Rattle.g1_race_words.specs.Rule.{Raced, region_at, slot_card, Someone, start_of, started}
pub use Rattle.g1_race_words.specs.Rule.{stored_sum, StoredInto, StoreHistory, sum_at, tally, times}
pub use Rattle.g1_race_words.specs.Rule.{total, word_count}
pub use Rattle.g1_race_words.specs.Seats.{HoldsBit, IsAtPause, IsFound, IsPaused, Sits}
pub use Rattle.g1_race_words.specs.StepKinds.{Clean, HasMade}
pub use Rattle.g1_race_words.specs.Steps.{after_split, blank, both, frozen_seat, gains_store}
pub use Rattle.g1_race_words.specs.Steps.{new_racer, pair_at, raised, recorded}
pub use Rattle.g1_race_words.specs.Steps.{sought, unset, whole_seat}
pub use Rattle.g1_race_words.specs.declared.view.RaceShape.{RaceShape}
pub use Rattle.g1_race_words.specs.declared.view.View.{View}
