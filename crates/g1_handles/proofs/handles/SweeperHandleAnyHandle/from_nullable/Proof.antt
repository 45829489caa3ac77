-- The words of a nullable box.
use Rattle.std.specs.Prelude.{◌∷◌}
use Rattle.g1_handles.specs.contracts.nullable_box.NullableBox as from
use Rattle.g1_handles.specs.contracts.handles.SweeperHandle as to
use Rattle.g1_handles.specs.{[], tables, sweeper_row as R}
use Rattle.g1_handles.proofs.{plain, alive, Stays, stay_dropped, walk_of, Goes-blank, proved_at, leaves, moved}
use Rattle.g1_handles.specs.contracts.handles.SweeperHandleAnyHandle.from_nullable.{ended, clauses}
use Rattle.g1_handles.specs.contracts.handles.SweeperHandleAnyHandle.from_nullable.Key.{name as #self}
use Rattle.g1_handles.proofs.handles.SweeperHandleAnyHandle.from_nullable.Statement.{statement}
use Rattle.g1_handles.proofs.handles.SweeperHandleAnyHandle.from_nullable.Code as code

pub from_nullable_spec : {M : Type 1} → statement M
from_nullable_spec 𝓤 𝓛 𝓜 𝓡 wired =
    let 𝓣 = tables 𝓤 𝓛.H 𝓜 𝓡 𝓡.env in let c = clauses 𝓛 𝓜.mem 𝓡.returns in let slot = plain (λ _. from.the_row R) in
    let hs : Stays ended.signature.params ended.kept = (stay_dropped slot ended.kept.0, tt) in
    proved_at 𝓛 ended hs c 𝓜 𝓡 (Goes-blank 𝓛 0 slot ended.kept.0 (λ κs x f. tt), tt) #self code.function (code.unfolded 𝓤 𝓛.H 𝓜 𝓡 wired) (λ z are. let v = z.0.3.0 in
    moved R (from.the_type R).name to.the_type.name (R ∷ []) [] 𝓤 𝓛 𝓣.C 𝓣.Λ (alive 𝓛 ended.signature z.0.0 z.0.1) ((c z.0.0 z.0.3).requires z.1) ((walk_of 𝓛 ended hs c).post z) v.at v.alloc v.value z.0.4.0
    (λ w. leaves 𝓛 ended hs c z w (record { at = v.at; alloc = v.alloc; value = v.value }) (tt, tt) (tt, tt)))
