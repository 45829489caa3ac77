-- The pause holds the race by a share of it.
use Rattle.g1_handles.specs.{map, subst, Race, racer_view, sweeper_view, racer_log, IsPauseOf}
use Rattle.g1_handles.proofs.heap.phases.enter_pause.Goals as goal

pub returns-clause-paused : goal.returns-clause-paused
returns-clause-paused c =
    let b = c.in-Racing.under_way in
    let asked = rw c.in-Racing.is at c.requires in
    rw c.in-Racing.is (subst (λ (race : Race). IsPauseOf race (map racer_view b.racers.roles.items) (map sweeper_view b.sweepers.roles.items) (map racer_log b.racers.roles.items) c.of-pause.result) asked.0 c.of-pause.ensures)
