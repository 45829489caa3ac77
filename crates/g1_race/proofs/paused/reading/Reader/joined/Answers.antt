-- The words of one region more.
use Rattle.std.specs.Prelude.{◌/◌}
use Rattle.g1_race.specs.{ap, ◌∙◌}
use Rattle.g1_race.proofs.{joined_on}
use Rattle.g1_race.proofs.paused.reading.Reader.joined.Goals as goal

pub loop-i-preserved : goal.loop-i-preserved
loop-i-preserved c =
    let i = c.loop-i.invariant in
    record {
      same = c.see-bits.ensures.same ∙ i.same;
      bits = joined_on c.args.race.now.shape (ap (λ r. r.start.words) i.same) (c.args.card / 64) c.args.regions.now c.loop-i.i c.bit_of-at.result.0 c.loop-i.bits c.see-bits.result c.loop-i-test.true i.bits c.bit_of-at.ensures.word c.see-bits.ensures.word;
    }
