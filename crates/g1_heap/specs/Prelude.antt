-- What the crate takes from the libraries below it.
pub use Rattle.std.proofs.Common.{ap, arith, drop, get_or, inl, inr, length, List, map, None, refl}
pub use Rattle.std.proofs.Common.{rules, Some, subst, suc, sym, take, zero, ℕ, ◌∙◌}
pub use Rattle.std.proofs.lemmas.Bool.{cases_lt, eq-eqb, eqb-true, le-ltb, lt-ltb, true≢false}
pub use Rattle.std.proofs.lemmas.List.{get_or-drop, get_or-map, get_or-take, get_or_default}
pub use Rattle.std.proofs.lemmas.List.{get_or_past, length-drop, length-map, length-take, map-set}
pub use Rattle.std.proofs.lemmas.List.Elements.{All-map, Contains-append_left, Contains-push}
pub use Rattle.std.proofs.lemmas.List.Elements.{Contains-push_cases}
pub use Rattle.std.specs.List.{AllPairs, IsDistinct}
pub use Rattle.std.specs.Option.{IsSome, SomeIff}
pub use Rattle.std.specs.Prelude.{[], All, Contains, false, IfOk, IfSome, MatchOption, min, nat_eq}
pub use Rattle.std.specs.Prelude.{nat_lt, Option, replicate, slice_index, slice_index_or, slice_set}
pub use Rattle.arrayvec.specs.ArrayVec.{array_vec_len, ArrayVec}
pub use Rattle.g1_layout.proofs.ShapeLemmas.{card_of-row, IsInRow, region_ends_within}
pub use Rattle.g1_layout.proofs.ShapeLemmas.{region_has_slots, region_of-offset, region_of_below}
pub use Rattle.g1_layout.proofs.ShapeLemmas.{row_of_card, slot_count_limit}
pub use Rattle.g1_layout.specs.Regions.{Gains, HasRegion}
pub use Rattle.g1_layout.specs.Shape.{card_count, card_of, IsShape, region_of, region_of_card}
pub use Rattle.g1_layout.specs.Shape.{Shape, slot_at, slot_count}
pub use Rattle.g1_layout.specs.declared.region_set.RegionSet.{RegionSet}
pub use Rattle.memchr.specs.Find.{is_byte, IsFirstByte, NoneBefore, Nowhere, Passes}
