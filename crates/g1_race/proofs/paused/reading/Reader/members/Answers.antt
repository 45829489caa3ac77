-- The list is that of the members by the region's number.
use Rattle.std.specs.Prelude.{◌≡◌}
use Rattle.g1_race.specs.{ℕ, List, sym, ap, ◌∙◌, subst, arith, AreMembers, members_step, RaceShape, member_cards, ended, table_of, table_read}
use Rattle.g1_race.proofs.{members_are}
use Rattle.g1_race.proofs.paused.reading.Reader.members.Goals as goal

-- the cards are those of the words as they were
cards_are : (c : goal.After-of) → c.of.result ≡ member_cards c.args.race.now.shape c.args.self.now.start.words c.number.result
cards_are c = c.of.ensures ∙ (c.list.ensures.cards ∙ ap (λ (ws : List ℕ). member_cards c.args.race.now.shape ws c.number.result) (ap (λ r. r.start.words) c.count-count.ensures.same))

pub returns-clause-told : goal.returns-clause-told
returns-clause-told c =
    let race = c.args.race.now in
    let words = c.args.self.now.start.words in
    let members = subst (λ (cs : List ℕ). AreMembers (table_of (ended race.layout race.shape words)) c.args.region cs) (sym (cards_are c))
    (members_are race.shape race.layout race.laid words c.args.region c.number.result c.begun.ensures c.number.ensures (omega (arith, c.requires.region, c.number.ensures, ap (λ (s : RaceShape). s.regions) race.laid))) in
    record { members = members; step = λ caller. members_step caller (table_read race c.args.self.now) c.args.region c.of.result c.requires.region members }
