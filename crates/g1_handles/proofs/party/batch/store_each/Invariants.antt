-- The first i stores were made.
use Rattle.std.specs.Prelude.{◌≡◌}
use Rattle.g1_handles.specs.{take, racer_race, racing, StoresAll}
use Rattle.g1_handles.proofs.party.batch.store_each.Given as goal

abbrev pub invariant-loop-i : goal.invariant-loop-i
invariant-loop-i l =
    (racer_race l.racer ≡ racer_race l.initial.racer)
    × StoresAll (racing l.race l.initial.racer l.initial.counts) (take l.i l.stores) (racing l.race l.racer l.counts)
