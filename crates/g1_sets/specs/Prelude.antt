-- What the crate takes from the libraries below it.
pub use Rattle.std.proofs.Common.{[], ap, arith, bit_and, bit_or, Bool, cond, drop, eqb, false}
pub use Rattle.std.proofs.Common.{get_or, Global, inl, inr, length, length-set, List, min, refl}
pub use Rattle.std.proofs.Common.{rules, set, subst, suc, sym, take, take_all, true, Vec, w64, zero}
pub use Rattle.std.proofs.Common.{ℕ, ◌∙◌}
pub use Rattle.std.proofs.lemmas.Bool.{and_from, and_parts, cases_Bool, cases_eq, cases_lt, eq-eqb}
pub use Rattle.std.proofs.lemmas.Bool.{eqb-true, MatchBool-at_true, ne_eqb, not-true, or_cases}
pub use Rattle.std.proofs.lemmas.Bool.{or_left, or_right, true≢false}
pub use Rattle.std.proofs.lemmas.List.{get_or-map, get_or-replicate, get_or-set_other}
pub use Rattle.std.proofs.lemmas.List.{get_or-set_same, get_or-take, get_or_append_left}
pub use Rattle.std.proofs.lemmas.List.{get_or_default, get_or_past, get_or_push, length-map}
pub use Rattle.std.proofs.lemmas.List.{length-replicate, length-take-le, length_push, map-set}
pub use Rattle.std.proofs.lemmas.List.{take_more}
pub use Rattle.std.proofs.lemmas.List.Elements.{All-contains, All-more, All-push}
pub use Rattle.std.proofs.lemmas.List.Elements.{Contains-append_cases, Contains-append_left}
pub use Rattle.std.proofs.lemmas.List.Elements.{Contains-append_right, Contains-get_or}
pub use Rattle.std.proofs.lemmas.List.Elements.{Contains-push, Contains-push_cases}
pub use Rattle.std.proofs.lemmas.List.Sorted.{Contains-permutation, IsNonDecreasingBy-from_sort}
pub use Rattle.std.proofs.lemmas.List.Sorted.{IsPermutation-sym, non_decreasing_from_is_sorted}
pub use Rattle.std.proofs.lemmas.List.Sums.{fold_more, sum_by-cons, sum_by-le, sum_by-take-le}
pub use Rattle.std.proofs.lemmas.List.Sums.{sum_by_push}
pub use Rattle.std.proofs.lemmas.Map.Keys.{apart_from_distinct, IsDistinct-IsPermutation}
pub use Rattle.std.proofs.lemmas.Map.Keys.{IsDistinct-push, IsDistinct-tail}
pub use Rattle.std.proofs.lemmas.Map.Keys.{IsStrictlyIncreasing-from_distinct}
pub use Rattle.std.proofs.lemmas.Nat.{and_le_r, mul-le}
pub use Rattle.std.proofs.lemmas.Nat.Bits.{bit_at-suc, bit_at-trailing_zeros, bit_at-zero}
pub use Rattle.std.proofs.lemmas.Nat.Bits.{bit_at_lowest, bit_at_set_other, bit_at_set_same}
pub use Rattle.std.specs.Cmp.{nat_eq_equiv}
pub use Rattle.std.specs.Int.{bit_at, trailing_zeros}
pub use Rattle.std.specs.List.{list_any}
unfoldable pub use Rattle.std.specs.List.{IsDistinct}
pub use Rattle.std.specs.List.Sorted.{IsPermutation, IsSorted, IsStrictlyIncreasing}
pub use Rattle.std.specs.Prelude.{All, Contains, Err, fold, IfOk, IsTrue, map, nat_eq, not, Ok}
pub use Rattle.std.specs.Prelude.{OnErr, OnOk, replicate, Result, slice_get, slice_index}
pub use Rattle.std.specs.Prelude.{slice_index_or, slice_set, Some, SomeIff, sum_by}
pub use Rattle.g1_layout.proofs.ShapeLemmas.{card_count_limit}
pub use Rattle.g1_layout.specs.Regions.{Gains, HasRegion, Loses}
pub use Rattle.g1_layout.specs.Sets.{pair_cmp, PairSet}
pub use Rattle.g1_layout.specs.Shape.{card_count, IsShape, IsWithinProfile, region_of_card, Shape}
pub use Rattle.g1_layout.specs.Shape.{shape_code}
pub use Rattle.g1_layout.specs.declared.region_set.RegionSet.{RegionSet}
pub use Rattle.indexmap.specs.IndexSet.{IndexSet, keys, spare}
