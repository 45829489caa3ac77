-- What proofs by hand take from the logic below the libraries.
pub use Rattle.std.proofs.alloc.Calls.{Al, Goes-blank}
pub use Rattle.std.proofs.cell.Inside.{Good, one}
pub use Rattle.std.proofs.raw_atomic.Walks.{proved_at, leaves}
pub use Rattle.std_alloc.proofs.BoxSteps.Steps.{box_in, box_out}
pub use Rattle.std_alloc.proofs.ResultValues.{and_tt}
pub use Rattle.std_alloc.proofs.SendSync.{lies, quiet}
pub use denote.Exit.{no}
pub use denote.Memory.{lone}
pub use denote.Param.{bounded, layout, param}
pub use denote.Param.Laws.{Laws, param_laws}
pub use denote.Param.Send.{AllSend, IsSend, owning_send, sendable, struct_send}
pub use denote.RattleType.{owns, RattleType, Valss}
pub use denote.Signature.{plain, type_at, types_at}
pub use denote.Steps.{heard, nothing, only}
pub use denote.Struct.Owning.{fields, to}
pub use denote.Struct.Struct.{exits_of, Struct, within}
pub use denote.Triple.Call.{calls_at, calls_at_last}
pub use denote.Triple.Entry.{alive}
pub use denote.Triple.Spec.{triple_of}
pub use denote.Triple.Walked.{Goes-dropped, Stays, stay_dropped, walk_of}
pub use mir.MapTy.{inst_fn}
pub use mir.Syntax.{a_type, Dict, tcons, aggregate, assign, copy, dcons, dnil, field, Fn, impl, local, place, return, rv_opd, seq, Sym, tnil, Ty, ty_ptr, value_local}
pub use mir.Val.{has_ty, of_list, Val, vcons, vnil, vnull, vptr, vstruct, WT}
pub use types.ByLocal.{alloc_all, env, free_all, get, get_in, lands_as, lands_last, look_at, pass_all, sets, sets_last}
pub use types.Kit.{ !, any_q, at_ret, await, by, drop, feq_i, feq_l, fjoin, fpack, fpick, fsplit, given, Goal, Item, join, keep, later, learn, move, pick, prop, qed, raw, regoal, rewrite, Seq, some, split, split3, Step, step, suffices, use0, use1, ‵, ◌$◌, ◌∵◌, ◌⊛◌}
pub use types.Logic.{Logic, sem}
pub use types.Part.{agg, sub, whole}
pub use types.Run.{and_then, bin, blocks, branches, enter, exec, first, fld, lit, no_more, of_opd, returns, stop}
pub use Rattle.core.proofs.alloc.Calls.{handle_tells}
pub use Rattle.core.proofs.alloc.Shapes.{after}
pub use Rattle.core.proofs.atomic.Steps.{fm, Ptr-Good}
