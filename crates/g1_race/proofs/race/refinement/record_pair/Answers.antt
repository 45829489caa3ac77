use Rattle.std.specs.Prelude.{◌≡◌, ◌≢◌}
use Rattle.g1_race.specs.{ℕ, sym, ap, ◌∙◌, subst, shr_and_one, bit_at, RaceShape, bit_index, HoldsBit}
use Rattle.g1_race.proofs.{found_clear}
use Rattle.g1_race.proofs.race.refinement.record_pair.Goals as goal

pub record-requires-clause-pair : goal.record-requires-clause-pair
record-requires-clause-pair c =
    let race = c.args.race.now in
    let w = c.requires.seat in
    let x : ℕ × ℕ = (c.args.card, c.args.region) in
    let n = c.seek-found.result in
    let at = c.bit_of-at in
    let clear : bit_at n (bit_index race.shape x) ≢ 1 = λ b. c.if-found-index-eq1.false (shr_and_one n at.result.1 ∙ (ap (bit_at n) at.ensures.index ∙ b)) in
    let held = ap (λ me. me.0.held) c.seek-found.ensures.view ∙ found_clear race.shape c.args.seat.now.me.0 x n w.shape w.held clear in
    let there = subst (λ (k : RaceShape). HoldsBit k c.seek-found.new.seat.me.0 x at.result.0 × (at.result.1 ≡ bit_index k x)) (sym race.key_is)
    ((held, c.requires.pair, at.ensures.word), at.ensures.index) in
    (x, there.0, there.1)
