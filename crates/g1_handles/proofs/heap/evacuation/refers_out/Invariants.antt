-- The first i slots of the region do not refer out of it.
use Rattle.std.specs.Prelude.{◌≡◌, ◌≢◌, ◌<◌, ◌≤◌, ◌+◌}
use Rattle.g1_handles.specs.{ℕ, region_of, Crosses, table_at}
use Rattle.g1_handles.proofs.heap.evacuation.refers_out.Given as goal

abbrev pub invariant-loop-i : goal.invariant-loop-i
invariant-loop-i l =
    (l.heap ≡ l.initial.heap)
    × ((slot place : ℕ) → l.first ≤ slot → slot < l.first + l.i → Crosses (table_at l.initial.heap) slot place → region_of l.layout slot ≢ l.region)
