-- What the crate takes from the libraries below it.
pub use Rattle.std.proofs.Common.{add-one, ap, append-nil, append_assoc, arith, decimal, drop}
pub use Rattle.std.proofs.Common.{get_or, inl, inr, length, length-set, lit<, refl, rules, set}
pub use Rattle.std.proofs.Common.{slice_index_or, subst, suc, sym, take, ◌∙◌}
pub use Rattle.std.proofs.KnownBytes.{Appends-nil, Appends-trans}
pub use Rattle.std.proofs.Math.Seq.{drop-cons, drop-length, take-append_seam, take-length, take-suc}
pub use Rattle.std.proofs.lemmas.Bool.{cases_Bool, cases_lt, eq-eqb, false≢true, ne_eqb}
pub use Rattle.std.proofs.lemmas.List.{drop-set, length-append, length-drop, length-take}
pub use Rattle.std.proofs.lemmas.List.{length-take-le, take-append-drop, take-append-le}
pub use Rattle.std.specs.Char.{is_ascii_digit}
pub use Rattle.std.specs.Io.KnownBytes.{Appends, Keeps}
pub use Rattle.std.specs.Prelude.{[], Bool, codes, Err, false, IfOk, IfSome, IsErr, IsNone, List}
pub use Rattle.std.specs.Prelude.{MatchResult, min, nat_lt, None, not, Ok, OnErr, Option}
pub use Rattle.std.specs.Prelude.{option_to_list, Result, slice_index, Some, true, ℕ}
pub use Rattle.std.specs.Str.{bytes_eq}
pub use Rattle.g1_core.specs.declared.entry.Call.{Call}
pub use Rattle.g1_layout.specs.Shape.{card_count, IsShape, Shape, slot_count}
