-- No card before the one that is found lies outside the regions and is recorded for one of them.
use Rattle.std.specs.Prelude.{◌≡◌, ◌+◌, ◌*◌, ◌<◌, ◌==◌}
use Rattle.std.specs.List.{list_any}
use Rattle.g1_race.specs.{ℕ, Bool, All, Some, sym, ap, ◌∙◌, subst, arith, region_of_card, RaceShape, IsNextInto, table_read}
use Rattle.g1_race.proofs.{least_into, none_of_region, nothing_into, past_region}
use Rattle.g1_race.proofs.paused.reading.Reader.next_into.Goals.{After-contains, After-begun}
use Rattle.g1_race.proofs.paused.reading.Reader.next_into.Goals as goal

-- the regions are of the race
low : (c : After-begun) → All (λ r. r < c.args.race.now.shape.regions) c.args.regions.now
low c = subst (λ (n : ℕ). All (λ r. r < n) c.args.regions.now) (sym (ap (λ (s : RaceShape). s.regions) c.args.race.now.laid)) c.requires.regions

-- the region that is looked for is the card's
region_is : (c : After-contains) → c.number-region.result ≡ region_of_card c.args.race.now.layout c.in-Some.number
region_is c = c.number-region.ensures ∙ (c.region_of_card.ensures.quotient ∙ ap (region_of_card c.args.race.now.layout) c.card_at-card.ensures)

among : (c : After-contains) (found : Bool) → list_any (λ r. r == c.number-region.result) c.args.regions.now ≡ found → list_any (λ r. r == region_of_card c.args.race.now.layout c.in-Some.number) c.args.regions.now ≡ found
among c found = subst (λ (q : ℕ). list_any (λ r. r == q) c.args.regions.now ≡ found) (region_is c)

pub returns-then-not-contains-clause-next : goal.returns-then-not-contains-clause-next
returns-then-not-contains-clause-next c =
    let race = c.args.race.now in
    let i = c.loop-number.invariant in
    let out = among ((goal.at.returns-then-not-contains-clause-next c).After-contains) _ (sym c.if-not-contains.ensures.value) in
    subst (λ (d : ℕ). IsNextInto (table_read race c.args.self.now) c.args.regions.now c.args.from (Some d)) (sym c.card_at-card.ensures)
    (least_into race.shape race.layout race.laid c.args.self.now.start.words c.begun.ensures c.args.regions.now (low ((goal.at.returns-then-not-contains-clause-next c).After-begun)) (ap (λ r. r.start.words) i.same) c.args.from c.loop-number.next i.none c.in-Some.number c.in-Some.ensures.next i.past out)

pub loop-number-preserved : goal.loop-number-preserved
loop-number-preserved c =
    let race = c.args.race.now in
    let i = c.loop-number.invariant in
    let at = goal.at.loop-number-preserved c in
    let cards = c.counts-cards.ensures.cards in
    let region = region_is (at.After-contains) in
    let end : (c.number-region.result + 1) * c.counts-cards.result.1 ≡ (region_of_card race.layout c.in-Some.number + 1) * race.layout.cards = λ j. (region j + 1) * cards j in
    let pos : 0 < race.layout.cards = omega (arith, c.counts-cards.ensures.shape.cards_low) in
    record {
      same = c.next_in_rows.ensures.same ∙ i.same;
      past = omega (arith, i.past, c.in-Some.ensures.next.0, past_region race.layout.cards c.in-Some.number pos, end);
      none = λ d le lt. none_of_region race.shape race.layout race.laid c.args.self.now.start.words c.begun.ensures c.args.regions.now (low (at.After-begun)) (ap (λ r. r.start.words) i.same) c.args.from c.loop-number.next i.none c.in-Some.number c.in-Some.ensures.next pos (among (at.After-contains) _ (sym c.if-not-contains.ensures.value)) d le (subst (λ (m : ℕ). d < m) end lt);
    }

pub returns-clause-next : goal.returns-clause-next
returns-clause-next c =
    let race = c.args.race.now in
    let i = c.loop-number.invariant in
    nothing_into race.shape race.layout race.laid c.args.self.now.start.words c.begun.ensures c.args.regions.now (low ((goal.at.returns-clause-next c).After-begun)) (ap (λ r. r.start.words) i.same) c.args.from c.loop-number.next i.none c.in_default.ensures.next
