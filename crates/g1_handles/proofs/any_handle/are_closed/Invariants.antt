-- The handles hold what they held, and the first i are closed.
use Rattle.std.specs.Prelude.{◌≡◌}
use Rattle.g1_handles.specs.{None, length, map, AllWithin}
use Rattle.g1_handles.proofs.any_handle.are_closed.Given as goal

abbrev pub invariant-loop-i : goal.invariant-loop-i
invariant-loop-i g l = record {
  sized : length l.handles ≡ length l.initial.handles;
  same : map g.H.AnyHandle.value l.handles ≡ map g.H.AnyHandle.value l.fn.handles;
  closed : AllWithin (λ h. g.H.AnyHandle.value h ≡ None) l.handles 0 l.i;
}
