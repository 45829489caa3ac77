-- What the handle holds is lent.
use Rattle.std.specs.Prelude.{◌∷◌}
use Rattle.g1_handles.specs.contracts.handles.HeapHandle as from
use Rattle.g1_handles.specs.{[], refl, tables, heap_row as R}
use Rattle.g1_handles.proofs.{Stays, stay_dropped, walk_of, proved_at, leaves}
use Rattle.g1_handles.proofs.Lends.{lent}
use denote.Signature.{plain, mut_ref_to}
use denote.Triple.Walked.{Goes-spent_ref}
use Rattle.g1_handles.specs.contracts.handles.HeapHandleAnyHandle.value_mut.{ended, clauses}
use Rattle.g1_handles.specs.contracts.handles.HeapHandleAnyHandle.value_mut.Key.{name as #self}
use Rattle.g1_handles.proofs.handles.HeapHandleAnyHandle.value_mut.Statement.{statement}
use Rattle.g1_handles.proofs.handles.HeapHandleAnyHandle.value_mut.Code as code

pub value_mut_spec : {M : Type 1} → statement M
value_mut_spec 𝓤 𝓛 𝓜 𝓡 wired =
    let 𝓣 = tables 𝓤 𝓛.H 𝓜 𝓡 𝓡.env in let c = clauses 𝓛 𝓜.mem 𝓡.returns in let slot = mut_ref_to (0 ∷ []) tt (plain (λ _. from.the_row)) in
    let hs : Stays ended.signature.params ended.kept = (stay_dropped slot ended.kept.0, tt) in
    proved_at 𝓛 ended hs c 𝓜 𝓡 (Goes-spent_ref 𝓛 1 (0 ∷ []) tt (plain (λ _. from.the_row)), tt) #self code.function (code.unfolded 𝓤 𝓛.H 𝓜 𝓡 wired) (λ z are. let x = z.0.3.0 in let d = x.now in
    lent from.the_row R from.the_type.name [] (λ p a v. record { at = p; alloc = a; value = v }) refl (λ p a v vs. refl) 𝓤 𝓛 z.0.0.0 z.0.1.0 x.ref_ptr.0 x.ref_ptr.1 x.ghost_name d.at d.alloc d.value 𝓣.C 𝓣.Λ
    ((c z.0.0 z.0.3).requires z.1) ((walk_of 𝓛 ended hs c).post z) z.0.4.0
    (λ r w. leaves 𝓛 ended hs c z w r (tt, tt) (tt, tt)))
