-- A pair is recorded where its bit is set.
use Rattle.std.specs.Prelude.{◌≡◌}
use Rattle.g1_race.specs.{ℕ, sym, subst, arith, IsRecorded, IsBegun, HasBit, IsPair, started, Known, table_read}
use Rattle.g1_race.proofs.{recorded_set, set_recorded}
use Rattle.g1_race.specs.declared.race.Race.{Race}
use Rattle.g1_race.proofs.paused.reading.Reader.has.Goals as goal

-- the pair of a record has its bit set
set : (race : Race) (reader : Known) (card region : ℕ) → IsBegun (started race.shape reader.start.words) → IsRecorded (table_read race reader) card region → IsPair race.shape (card, region) × HasBit race.shape reader.start.words (card, region)
set race reader card region begun = recorded_set race.shape race.layout reader.start.words race.laid begun (card, region)

pub returns-then-card-race-clause-has : goal.returns-then-card-race-clause-has
returns-then-card-race-clause-has c = (λ t. absurd (cc (t)), λ r. absurd (let pair = (set c.args.race.now c.args.self.now c.args.card c.args.region c.begun.ensures r).0 in omega (arith, pair.0, c.if-card-race.true, c.number.ensures)))

pub returns-then-region-race-clause-has : goal.returns-then-region-race-clause-has
returns-then-region-race-clause-has c = (λ t. absurd (cc (t)), λ r. absurd (let pair = (set c.args.race.now c.args.self.now c.args.card c.args.region c.begun.ensures r).0 in omega (arith, pair.1, c.if-region-race.true, c.number-2.ensures)))

pub returns-clause-has : goal.returns-clause-has
returns-clause-has c =
    let race = c.args.race.now in
    let words = c.args.self.now.start.words in
    let same : (c.number.result, c.number-2.result) ≡ (c.args.card, c.args.region) = λ i. (c.number.ensures i, c.number-2.ensures i) in (
      λ t. set_recorded race.shape race.layout words race.laid c.begun.ensures (c.args.card, c.args.region)
          (subst (IsPair race.shape) same (omega (arith, c.if-card-race.false), omega (arith, c.if-region-race.false))) (subst (HasBit race.shape words) same (c.is_set.ensures.set.0 t)),
      λ r. c.is_set.ensures.set.1 (subst (HasBit race.shape words) (sym same) (set race c.args.self.now c.args.card c.args.region c.begun.ensures r).1),
    )
