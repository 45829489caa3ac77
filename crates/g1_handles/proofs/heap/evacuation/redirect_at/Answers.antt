-- The regions of these numbers.
use Rattle.g1_handles.specs.{ℕ, Redirects}
use Rattle.g1_handles.proofs.{moved_to}
use Rattle.g1_handles.proofs.heap.evacuation.redirect_at.Goals as goal

pub returns-clause-redirected : goal.returns-clause-redirected
returns-clause-redirected c =
    let of = c.in_ok-from.ensures.regions in
    let done = c.redirect_in_place in
    (moved_to (λ (from to : ℕ). Redirects c.args.heap.now from to done.result done.new.self) of.0 of.1 done.ensures, tt, tt)
