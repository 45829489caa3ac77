-- What the crate takes from the libraries below it.
pub use Rattle.std.proofs.Common.{ap, arith, get_or, inl, inr, refl, subst, suc, sym, take, zero, ℕ}
pub use Rattle.std.proofs.Common.{◌∙◌}
pub use Rattle.std.proofs.lemmas.List.{length-append}
pub use Rattle.std.specs.Prelude.{[], All, Bool, cond, count_by, Err, false, IfOk, IfSome, IsNone}
pub use Rattle.std.specs.Prelude.{length, List, None, Ok, OnErr, OnOk, Option, option_map, Result}
pub use Rattle.std.specs.Prelude.{Some, true, vec_capacity, vec_len}
pub use Rattle.g1_core.proofs.LengthLemmas.{refined_few, turned_few}
pub use Rattle.g1_core.proofs.RunLemmas.{has_slots, permitted_step, run_covered, run_layout}
pub use Rattle.g1_core.proofs.TableLemmas.{opening_covered}
pub use Rattle.g1_core.specs.Calls.{clear_entry, DoesAsked, DoesClear, DoesDrain, DoesRefine}
pub use Rattle.g1_core.specs.Calls.{DoesStore, drain_cards, drain_entry, drain_refined, drain_reply}
pub use Rattle.g1_core.specs.Calls.{IsLent, redirect_entry, redirect_refined, redirect_reply}
pub use Rattle.g1_core.specs.Calls.{refine_entry, store_entry}
pub use Rattle.g1_core.specs.Machine.{IsLater, IsSound, Machine, machine_code, new_machine, State}
pub use Rattle.g1_core.specs.Redirect.{DoesRedirect}
pub use Rattle.g1_core.specs.Run.{drained, IsAllowed, IsCallOf, IsExact, IsPermitted, IsStep}
pub use Rattle.g1_core.specs.Run.{table_of_history}
pub use Rattle.g1_core.specs.Table.{IsCovered, opening, refined, Table}
pub use Rattle.g1_core.specs.declared.entry.Call.{Call}
pub use Rattle.g1_core.specs.declared.entry.Call.TheVariants.{Clear, Redirect, Refine, Store}
pub use Rattle.g1_core.specs.declared.entry.Entry.{Entry}
pub use Rattle.g1_core.specs.declared.entry.Reply.{Reply}
pub use Rattle.g1_core.specs.declared.reply.Drained.{Drained}
pub use Rattle.g1_core.specs.declared.reply.Drained.TheVariants.{Cards, Short}
pub use Rattle.g1_layout.specs.Shape.{card_count, card_of, IsShape, Shape, slot_count}
