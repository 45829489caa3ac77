-- No slot of the card before the one that is looked at refers into the region.
use Rattle.std.specs.Prelude.{◌≡◌, ◌+◌, ◌*◌}
use Rattle.g1_race.specs.{ℕ, List, ap, ◌∙◌, subst, arith, some, get_elem?, div-mul-add}
use Rattle.g1_race.proofs.{slot_below}
use Rattle.g1_race.proofs.LeastInto.{least_on, none_next, none_on}
use Rattle.g1_race.proofs.paused.reading.Reader.entering_on.Goals as goal

pub returns-then-enters-clause-least : goal.returns-then-enters-clause-least
returns-then-enters-clause-least c =
    let race = c.args.race.now in
    let k = race.shape in
    let i = c.loop-i.invariant in
    let words = c.args.self.now.start.words in
    let below = slot_below k c.args.card c.loop-i.i race.shaped c.requires.card c.loop-i-test.true in
    let word = subst (λ (l : List ℕ). get_elem? l (c.args.card * k.size + c.loop-i.i) ≡ some c.see-word.result) (ap (λ r. r.start.words) i.same) c.see-word.ensures.word in
    let e = c.enters.ensures.0 c.if-enters.true in
    (div-mul-add c.args.card k.size c.loop-i.i c.loop-i-test.true, (c.see-word.result, below, word, e.0, e.1), λ q on x. least_on k words c.args.card c.args.region c.loop-i.i q i.none on x)

pub loop-i-preserved : goal.loop-i-preserved
loop-i-preserved c =
    let k = c.args.race.now.shape in
    let i = c.loop-i.invariant in
    let word = subst (λ (l : List ℕ). get_elem? l (c.args.card * k.size + c.loop-i.i) ≡ some c.see-word.result) (ap (λ r. r.start.words) i.same) c.see-word.ensures.word in
    record {
      same = c.see-word.ensures.same ∙ i.same;
      none = none_next k c.args.self.now.start.words c.args.card c.args.region c.loop-i.i c.see-word.result word (λ b. absurd (let t = c.enters.ensures.1 b in let f = c.if-enters.false in cc (t, f))) i.none;
    }

pub returns-clause-least : goal.returns-clause-least
returns-clause-least c = λ p on x. none_on c.args.race.now.shape c.args.self.now.start.words c.args.card c.args.region c.loop-i.i p c.args.race.now.shaped.1 (omega (arith, c.loop-i-test.false)) c.loop-i.invariant.none on x
