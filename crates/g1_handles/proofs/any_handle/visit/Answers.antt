-- The call was made on what the handle held, which it holds again.
use Rattle.g1_handles.specs.{refl}
use Rattle.g1_handles.proofs.VisitLemmas.{visited}
use Rattle.g1_handles.proofs.any_handle.visit.Goals as goal

pub returns : goal.returns
returns g c =
    visited _ c.in-Some.ensures.lent (g.met.H.AnyHandle.holds _ _)
    (record { shown = _; shows = refl; left = _; met = c.call.ensures; leaves = refl })
