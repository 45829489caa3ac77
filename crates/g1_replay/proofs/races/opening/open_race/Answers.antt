use Rattle.g1_replay.specs.{◌∙◌, ℕ, sym, subst, arith, null_of, HaveBegun, AllFrom, IsNewParty}
use Rattle.g1_race_words.specs.declared.view.RaceShape.{RaceShape}
use Rattle.g1_replay.proofs.races.opening.open_race.Goals as goal

pub parties_of-requires-clause-begun : goal.parties_of-requires-clause-begun
parties_of-requires-clause-begun c =
    subst (λ (k : RaceShape). HaveBegun (null_of k) c.in_ok-race.racers c.in_ok-race.sweepers) (sym c.in_ok-race.ensures.shape) c.in_ok-race.ensures.begun

pub returns : goal.returns
returns c = record {
  layout = c.in_ok-race.ensures.layout;
  shape = c.in_ok-race.ensures.shape;
  capacity = c.in_ok-line.ensures.capacity ∙ c.limit.ensures.buffers;
  many = omega (arith, c.in_ok-parties.ensures.len, c.in_ok-race.ensures.racers.0, c.in_ok-race.ensures.sweepers.0);
  parties = subst (λ (n : ℕ). AllFrom (IsNewParty c.in_ok-race.race c.in_ok-line.line n) 0 c.in_ok-parties.parties.items) c.in_ok-race.ensures.racers.0 c.in_ok-parties.ensures.new;
  ends = c.in_ok-parties.ensures.rights ∙ c.in_ok-line.ensures.all;
}
