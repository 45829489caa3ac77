use Rattle.std.specs.Prelude.{◌≡◌, ◌<◌}
use Rattle.g1_race.specs.{ℕ, get_or, region_of, Cuts}
use Rattle.g1_race.proofs.paused.Paused.cut_all.Given as goal

abbrev pub invariant-loop-i : goal.invariant-loop-i
invariant-loop-i g l = Cuts l.fn.self (λ slot. let region = region_of l.fn.self.layout slot in
    (k : ℕ) × (k < l.i) × (get_or l.regions k region ≡ region)) l.self
