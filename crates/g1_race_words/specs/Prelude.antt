-- What the crate takes from the libraries below it.
pub use Rattle.std.proofs.Common.{[], ap, arith, bit_or, Bool, cond, Contains, div-add-mod'}
pub use Rattle.std.proofs.Common.{div-lt_iff_lt-mul, drop, eq-eqb, eqb, false, get_or, inl, inr}
pub use Rattle.std.proofs.Common.{length, length-set, List, map, mod-lt, nat_lt, ne_eqb}
pub use Rattle.std.proofs.Common.{None, refl, set, Some, subst, suc, sym, take, true, w64, zero, ℕ}
pub use Rattle.std.proofs.Common.{⊎_elim, ◌∙◌}
pub use Rattle.std.proofs.lemmas.Bool.{cases_eq, cases_lt, eqb-true, le-ltb, lt-ltb}
pub use Rattle.std.proofs.lemmas.List.{append-nil, get_or-set_other, get_or-set_same, map-set}
pub use Rattle.std.proofs.lemmas.List.{length-replicate, set-get_or, take-set-le, take-take}
pub use Rattle.std.proofs.lemmas.Nat.{div-mul-add, mod-mul-add, mul-add-lt}
pub use Rattle.std.proofs.lemmas.Nat.Bits.{bit_at-zero, bit_at_set_other, bit_at_set_same}
pub use Rattle.std.specs.Int.{bit_at}
pub use Rattle.std.specs.Prelude.{IfOk, not, Option, replicate, slice_index, slice_set, sum_by}
pub use denote.RawPtr.{Ptr, ptr_row_laws}
pub use lib.ListN.{get_elem?}
pub use mathlib.Core.Option.{some, some-injective, some-ne-none}
pub use native.Mathlib.Decide.{ℕ_discrete}
pub use prog.Atomic.{either}
pub use Rattle.atomic_table.proofs.Lists.{at_longer, at_map, at_set, at_snoc, set_again, set_else}
pub use Rattle.atomic_table.proofs.Lists.{set_here}
pub use Rattle.atomic_table.specs.Seated.{common, Placed, TableId}
pub use Rattle.atomic_table.specs.Table.{Allows, Enters, Joins, keeps, Me, Splits, State}
pub use Rattle.atomic_table.specs.declared.shared.Seat.{Seat}
