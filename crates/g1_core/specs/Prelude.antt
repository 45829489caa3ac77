-- What the crate takes from the libraries below it.
pub use Rattle.std.proofs.Common.{[], add-one, ap, arith, below_more, Bool, cond, drop, drop-cons}
pub use Rattle.std.proofs.Common.{eqb, Err, false, get_or, inl, inr, leb, length, List, map, None}
pub use Rattle.std.proofs.Common.{Ok, Option, refl, Result, rules, set as list_set, Some, subst}
pub use Rattle.std.proofs.Common.{suc, sym, take, true, vec_items, vec_len, zero, ℕ, ◌∙◌}
pub use Rattle.std.proofs.Math.Nat.{mul-le-mul_right, mul-pos}
pub use Rattle.std.proofs.lemmas.Bool.{and_from, and_parts, cases_Bool, cases_cond, cases_eq}
pub use Rattle.std.proofs.lemmas.Bool.{cases_lt, eq-eqb, eqb-false, eqb-true, false_from_ne_true}
pub use Rattle.std.proofs.lemmas.Bool.{le-ltb, leb-false, leb-true, lt-ltb, ne_eqb, not-true}
pub use Rattle.std.proofs.lemmas.Bool.{or_cases, or_left, or_right, true_from_ne_false, true≢false}
pub use Rattle.std.proofs.lemmas.Bool.Decides.{Decides-eqb}
pub use Rattle.std.proofs.lemmas.Cmp.{eq_by_cmp_equiv, nat_cmp_total, nat_eq_equiv}
pub use Rattle.std.proofs.lemmas.Grind.{common_steps, flat_map-append, fold-append}
pub use Rattle.std.proofs.lemmas.List.{append-nil, append_assoc, drop-append-le, drop_all}
pub use Rattle.std.proofs.lemmas.List.{ext_get_or, get_or-append_right, get_or-drop, get_or-map}
pub use Rattle.std.proofs.lemmas.List.{get_or-replicate, get_or-set_other, get_or-set_same}
pub use Rattle.std.proofs.lemmas.List.{get_or_default, get_or_past, length-append, length-drop}
pub use Rattle.std.proofs.lemmas.List.{length-map, length-replicate, length-set, length-take}
pub use Rattle.std.proofs.lemmas.List.{length_push, map-append, map-set, set-append_right}
pub use Rattle.std.proofs.lemmas.List.{set-get_or, set_comm, take-append-le, take_all, take_more}
pub use Rattle.std.proofs.lemmas.List.Elements.{All-contains, All-nil, All-push, All-replicate}
pub use Rattle.std.proofs.lemmas.List.Elements.{All-set, Contains-append_cases}
pub use Rattle.std.proofs.lemmas.List.Elements.{Contains-append_left, Contains-append_right}
pub use Rattle.std.proofs.lemmas.List.Elements.{Contains-get_or, Contains-push, Contains-push_cases}
pub use Rattle.std.proofs.lemmas.List.Elements.{filter_map-append}
pub use Rattle.std.proofs.lemmas.List.FromFn.{get_or-enumerate_from, get_or-range_with_len}
pub use Rattle.std.proofs.lemmas.List.FromFn.{length-enumerate_from, length-range_with_len}
pub use Rattle.std.proofs.lemmas.List.Sums.{count_by-le-length, fold_more, sum_by-cons}
pub use Rattle.std.proofs.lemmas.Map.Keys.{IsDistinct-push, IsDistinct-tail}
pub use Rattle.std.proofs.lemmas.Map.Lookups.{exact_unsigned}
pub use Rattle.std.proofs.lemmas.Map.Made.{AllPairs-from_IsDistinct, Contains-tail}
pub use Rattle.std.proofs.lemmas.Map.Made.{IsDistinct-from_AllPairs}
pub use Rattle.std.proofs.lemmas.Option.{get_or_from_slice_get, slice_get_read, slice_get_within}
pub use Rattle.std.specs.Cmp.{Equal-is}
pub use Rattle.std.specs.Coded.{code_by, Coded, coded_list, coded_option, coded_ℕ, coded×}
pub use Rattle.std.specs.List.{cons_option, enumerate_from, filter_map, flat_map, range_with_len}
unfoldable pub use Rattle.std.specs.List.{IsDistinct}
pub use Rattle.std.specs.List.Sorted.{IsStrictlyIncreasing}
pub use Rattle.std.specs.Option.{SomeIff}
pub use Rattle.std.specs.Ordering.{eq_by_cmp, nat_cmp}
pub use Rattle.std.specs.Prelude.{All, Contains, count_by, fold, IfNone, IfOk, IfSome, IsNone}
pub use Rattle.std.specs.Prelude.{IsTrue, MatchOption, min, nat_eq, nat_lt, not, OnErr, OnOk}
pub use Rattle.std.specs.Prelude.{option_map, replicate, slice_get, slice_index_or, slice_set}
pub use Rattle.std.specs.Prelude.{sum_by, vec_capacity}
pub use Rattle.g1_heap.specs.Cells.{AreCells, Cells, HasNoDirty, HoldsIn, IsFirstDirty, new_cells}
pub use Rattle.g1_heap.specs.Cells.{reads_after, with_mark, with_reads, with_ref}
pub use Rattle.g1_heap.specs.declared.mark.Mark.{Mark}
pub use Rattle.g1_heap.specs.declared.mark.Mark.TheVariants.{Clean, Dirty, Held}
pub use Rattle.g1_hot.specs.Ring.{answer, cards_after, new_ring, offered, popped, reset, Ring}
pub use Rattle.g1_hot.specs.Ring.{ring_code}
pub use Rattle.g1_hot.specs.declared.offer.Offer.{Offer}
pub use Rattle.g1_hot.specs.declared.offer.Offer.TheVariants.{Cold, Kept, Out}
pub use Rattle.g1_layout.proofs.ShapeLemmas.{card_count_limit, card_of-in_row, card_of_below}
pub use Rattle.g1_layout.proofs.ShapeLemmas.{IsInRow, region_of-row, region_of_below}
pub use Rattle.g1_layout.proofs.ShapeLemmas.{region_of_slot, row_of_card, row_of_slot}
pub use Rattle.g1_layout.proofs.ShapeLemmas.{same_offset_below, same_offset_region}
pub use Rattle.g1_layout.proofs.ShapeLemmas.{slot_count_limit}
pub use Rattle.g1_layout.specs.Sets.{CardSet, pair_cmp, PairSet, set_of}
pub use Rattle.g1_layout.specs.Shape.{card_count, card_of, IsShape, region_of, region_of_card}
pub use Rattle.g1_layout.specs.Shape.{same_offset, Shape, shape_code, slot_at, slot_count}
pub use Rattle.g1_layout.specs.declared.kind.Kind.{Kind}
pub use Rattle.g1_layout.specs.declared.kind.Kind.TheVariants.{AlreadyDirty, Logged, Null}
pub use Rattle.g1_layout.specs.declared.kind.Kind.TheVariants.{SameRegion}
pub use Rattle.g1_log.specs.Log.{Cards, handed, pushed}
pub use Rattle.g1_sets.specs.Pairs.{AreCardsOf, AreTied, HasOnlyOutside, list_at, new_pairs}
pub use Rattle.g1_sets.specs.Pairs.{of_card, of_region, Pairs, pairs_from, pairs_of, without}
