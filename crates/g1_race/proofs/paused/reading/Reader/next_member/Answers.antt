-- The next member is the next card whose pair is recorded.
use Rattle.std.specs.Prelude.{◌≡◌, ◌<◌}
use Rattle.g1_race.specs.{ℕ, true, sym, ap, ◌∙◌, subst, inl, inr, arith, eq-eqb, cases_lt, eqb-true, true≢false, IsRecorded, RaceShape, HasBit, is_member, ended, table_of}
use Rattle.g1_race.proofs.{recorded_set, set_recorded}
use Rattle.g1_race.proofs.paused.reading.Reader.next_member.Goals.{After-number-number}
use Rattle.g1_race.proofs.paused.reading.Reader.next_member.Goals as goal

-- a recorded pair is one of the members, by the region's number
member : (c : After-number-number) (d : ℕ) → IsRecorded (table_of (ended c.args.race.now.layout c.args.race.now.shape c.args.self.now.start.words)) d c.args.region → (d < c.args.race.now.shape.cards) × (is_member c.args.race.now.shape c.args.self.now.start.words c.number-number.result d ≡ true)
member c d r =
    let s = recorded_set c.args.race.now.shape c.args.race.now.layout c.args.self.now.start.words c.args.race.now.laid c.begun.ensures (d, c.args.region) r in
    (s.0.0, eq-eqb _ 1 (subst (λ (q : ℕ). HasBit c.args.race.now.shape c.args.self.now.start.words (d, q)) (sym c.number-number.ensures) s.1))

pub returns-in_default-clause-member : goal.returns-in_default-clause-member
returns-in_default-clause-member c = λ d le r. let m = member ((goal.at.returns-in_default-clause-member c).After-number-number) d r in true≢false (sym m.1 ∙ c.in_default.ensures.next d le m.0)

pub returns-clause-member : goal.returns-clause-member
returns-clause-member c =
    let race = c.args.race.now in
    let words = c.args.self.now.start.words in
    let next = c.in-Some.ensures.next in
    let card = c.in-Some.card in
    let is : c.card_at.result ≡ card = c.card_at.ensures in
    let low : c.args.region < race.shape.regions = omega (arith, c.requires.region, ap (λ (s : RaceShape). s.regions) race.laid) in
    let bit : HasBit race.shape words (card, c.args.region) = subst (λ (q : ℕ). HasBit race.shape words (card, q)) c.number-number.ensures (eqb-true _ 1 next.2) in (
      omega (arith, next.0, is),
      subst (λ (d : ℕ). IsRecorded (table_of (ended race.layout race.shape words)) d c.args.region) (sym is) (set_recorded race.shape race.layout words race.laid c.begun.ensures (card, c.args.region) (next.1, low) bit),
      λ d le r. elim (cases_lt d card) [
        | inl before ↦ absurd (true≢false (sym (member ((goal.at.returns-clause-member c).After-number-number) d r).1 ∙ next.3 d le before))
        | inr high ↦ omega (arith, high, is)
      ],
    )
