use Rattle.std.specs.Prelude.{◌≡◌}
use Rattle.g1_race.specs.{ℕ, get_or, eqb, List, sym, ap, ◌∙◌, subst, arith, eq-eqb, eqb-true, bit_at, slots_items, bit_word, bit_index, IsPair, IsRecorded, Ended, table_of}
use Rattle.g1_race.proofs.{recorded_set, set_recorded}
use Rattle.g1_race.proofs.ended.Closed.has.Goals as goal

pub returns-then-card-self : goal.returns-then-card-self
returns-then-card-self c =
    let a = c.self.inside in
    (λ t. absurd (cc t), λ r. absurd (let s = recorded_set a.shape a.layout (slots_items a.words.words) c.self.invariant.0.laid c.self.invariant.0.begun (c.args.card, c.args.region) (subst (λ (e : Ended). IsRecorded (table_of e) c.args.card c.args.region) (sym c.self.view_is) r) in omega (arith, s.0.0, c.if-card-self.true, c.number.ensures)))

pub returns-then-region-self : goal.returns-then-region-self
returns-then-region-self c =
    let a = c.self.inside in
    (λ t. absurd (cc t), λ r. absurd (let s = recorded_set a.shape a.layout (slots_items a.words.words) c.self.invariant.0.laid c.self.invariant.0.begun (c.args.card, c.args.region) (subst (λ (e : Ended). IsRecorded (table_of e) c.args.card c.args.region) (sym c.self.view_is) r) in omega (arith, s.0.1, c.if-region-self.true, c.number-2.ensures)))

pub returns : goal.returns
returns c =
    let a = c.self.inside in
    let words : List ℕ = slots_items a.words.words in
    let x : ℕ × ℕ = (c.args.card, c.args.region) in
    let same : (c.number.result, c.number-2.result) ≡ x = λ i. (c.number.ensures i, c.number-2.ensures i) in
    let pair : IsPair a.shape x = (omega (arith, c.if-card-self.false, c.number.ensures), omega (arith, c.if-region-self.false, c.number-2.ensures)) in
    let is = c.has_bit.ensures ∙ ap (λ (y : ℕ × ℕ). eqb (bit_at (get_or words (bit_word a.shape y) 0) (bit_index a.shape y)) 1) same in (
      λ t. subst (λ (e : Ended). IsRecorded (table_of e) c.args.card c.args.region) c.self.view_is (set_recorded a.shape a.layout words c.self.invariant.0.laid c.self.invariant.0.begun x pair (eqb-true _ 1 (sym is ∙ t))),
      λ r. is ∙ eq-eqb _ 1 (recorded_set a.shape a.layout words c.self.invariant.0.laid c.self.invariant.0.begun x (subst (λ (e : Ended). IsRecorded (table_of e) c.args.card c.args.region) (sym c.self.view_is) r)).1,
    )
