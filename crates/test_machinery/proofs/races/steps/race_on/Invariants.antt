use Rattle.std.proofs.Common.{◌≡◌, ◌+◌, All, vec_len}
use Rattle.g1_race.specs.Parties.{race_id, race_shape, racer_race, sweeper_race}
use Rattle.test_machinery.proofs.races.steps.race_on.Given as goal

abbrev pub invariant-loop-step : goal.invariant-loop-step
invariant-loop-step g l = record {
  count : vec_len l.racers + vec_len l.sweepers ≡ (race_shape l.race).parties;
  racers : All (λ r. racer_race r ≡ race_id l.race) l.racers.items;
  sweepers : All (λ s. sweeper_race s ≡ race_id l.race) l.sweepers.items;
}
