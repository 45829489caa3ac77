-- What the crate takes from the libraries below it.
pub use Rattle.std.proofs.Common.{[], ap, append_assoc, arith, Bool, cond, false, fold, get_or, inl}
pub use Rattle.std.proofs.Common.{inr, length, List, map, nat_lt, not, refl, rules, set, subst, suc}
pub use Rattle.std.proofs.Common.{sum_by, sym, true, true≢false, vec_len, zero, ℕ, ⊎_elim, ◌∙◌}
pub use Rattle.std.proofs.lemmas.Bool.Decides.{nat_tests}
pub use Rattle.std.proofs.lemmas.Iterator.Adapters.{YieldsList-from_vec}
pub use Rattle.std.proofs.lemmas.Iterator.Consumers.{YieldsList-turn}
pub use Rattle.std.proofs.lemmas.List.Elements.{All-append, All-cons, All-head, All-nil, All-push}
pub use Rattle.std.proofs.lemmas.List.Elements.{All-tail}
pub use Rattle.std.proofs.lemmas.List.Sums.{sum_by-append, sum_by-cons, sum_by_push}
pub use Rattle.std.specs.Coded.{code_by, Coded, coded_list, coded_ℕ, coded×}
pub use Rattle.std.specs.List.{All}
pub use Rattle.std.specs.Prelude.{drop, Err, IfErr, IfOk, IfSome, IsNone, IsSomeAnd, IsTrue}
pub use Rattle.std.specs.Prelude.{MatchOption, MatchResult, None, OnOk, Option, slice_get, Some}
pub use lib.ListN.{get_elem?}
pub use mathlib.Core.Option.{some, some-injective, some-ne-none}
pub use Rattle.crossbeam_queue.proofs.Lists.{at_set, at_snoc, set_else}
pub use Rattle.crossbeam_queue.specs.Fifo.{Admits, Forks, Held, Learns, Merges, Pops, Pushes}
pub use Rattle.crossbeam_queue.specs.Passes.{IsPassOf, IsSamePass, ruled_capacity, view}
