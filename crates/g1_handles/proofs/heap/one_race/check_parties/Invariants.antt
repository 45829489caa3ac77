-- The handles hold what they held, and the first i are as they are to be.
use Rattle.std.specs.Prelude.{◌≡◌}
use Rattle.g1_handles.specs.{length, map, AllWithin, arc_value, race_shape, TakesPart}
use Rattle.g1_handles.proofs.heap.one_race.check_parties.Given as goal

abbrev pub invariant-loop-i : goal.invariant-loop-i
invariant-loop-i g l = record {
  sized : length l.handles ≡ length l.initial.handles;
  same : map g.H.AnyHandle.value l.handles ≡ map g.H.AnyHandle.value l.fn.handles;
  among : AllWithin (λ h. TakesPart (race_shape (arc_value l.race)).parties (g.H.AnyHandle.value h)) l.handles 0 l.i;
}
