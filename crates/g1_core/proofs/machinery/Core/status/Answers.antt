use Rattle.std.specs.Prelude.{◌≡◌}
use Rattle.g1_core.specs.{◌∙◌, ap, refl, sym, subst, Shape, HasOnlyOutside}
use Rattle.g1_core.specs.Machine.{Machine}
use Rattle.std.specs.FinSet as set
use Rattle.g1_core.proofs.{status_step}
use Rattle.g1_core.proofs.machinery.Core.status.Goals as goal
use Rattle.g1_core.proofs.machinery.Core.status.Goals.{After-total}

-- each recorded card lies outside its region, so that all pairs are counted
recorded_is : (c : After-total) → c.total.result ≡ set.len c.args.self.now.state.table.recorded
recorded_is c =
    let outside : HasOnlyOutside c.self.inside.memory.sets.layout c.self.inside.memory.sets.pairs = subst (λ (l : Shape). HasOnlyOutside l c.self.inside.memory.sets.pairs) (sym c.self.invariant.layouts) (λ card region r. (c.self.invariant.parts.outside card region r).2) in
    c.total.ensures.outside outside ∙ ap (λ (m : Machine). set.len m.state.table.recorded) c.self.view_is

pub returns : goal.returns
returns c =
    let pending = c.self.invariant.parts.known ∙ ap (λ (m : Machine). set.len m.state.table.pending) c.self.view_is in
    let recorded = recorded_is c in
    record { did = record { told = record { pending = pending; recorded = recorded; step = λ caller. status_step caller c.args.self.now.state.table _ pending recorded }; machine = refl } }
