-- The bit is read in its word.
use Rattle.std.specs.Prelude.{◌/◌, ◌^◌}
use Rattle.g1_race.specs.{bit_and, sym, ◌∙◌, eq-eqb, ne_eqb, shr_and_one, ℕ_discrete}
use Rattle.g1_race.proofs.{bit_read}
use Rattle.g1_race.proofs.paused.reading.Reader.is_set.Goals as goal

pub returns-clause-set : goal.returns-clause-set
returns-clause-set c =
    let k = c.args.race.now.shape in
    let words = c.args.self.now.start.words in
    let is = shr_and_one c.see.result c.bit_of-at.result.1 ∙ bit_read k words (c.args.card, c.args.region) c.bit_of-at.result.0 c.bit_of-at.result.1 c.see.result c.bit_of-at.ensures.word c.bit_of-at.ensures.index c.see.ensures.word in
    elim (ℕ_discrete (bit_and (c.see.result / 2 ^ c.bit_of-at.result.1) 1) 1) [
      | yes e ↦ (λ t. sym is ∙ e, λ b. eq-eqb _ 1 e)
      | no ne ↦ (λ t. absurd (let f = ne_eqb _ 1 ne in cc (t, f)), λ b. absurd (ne (is ∙ b)))
    ]
