-- The first i words were stored.
use Rattle.std.specs.Prelude.{◌≡◌}
use Rattle.g1_handles.specs.{take, racer_race, racing, StoresWords}
use Rattle.g1_handles.proofs.party.batch.store_row.Given as goal

abbrev pub invariant-loop-i : goal.invariant-loop-i
invariant-loop-i l =
    (racer_race l.racer ≡ racer_race l.initial.racer)
    × StoresWords (racing l.race l.initial.racer l.initial.counts) l.first (take l.i l.words) (racing l.race l.racer l.counts)
