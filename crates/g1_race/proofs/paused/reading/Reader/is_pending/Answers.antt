use Rattle.std.specs.Prelude.{◌≡◌, ◌+◌}
use Rattle.g1_race.specs.{ℕ, false, eqb, sym, ap, ◌∙◌, subst, arith, some, get_elem?, slot_count, card_count, pending_step, RaceShape, ended, marks_of, table_read, at_take, reads_as, same_bools, flag_pending, pending_flag}
use Rattle.g1_race.proofs.{marks_here}
use Rattle.g1_race.proofs.paused.reading.Reader.is_pending.Goals as goal

pub returns-clause-told : goal.returns-clause-told
returns-clause-told c =
    let race = c.args.race.now in
    let k = race.shape in
    let words = c.args.self.now.start.words in
    let e = ended race.layout k words in
    let marks = marks_of e in
    let slots : k.slots ≡ slot_count race.layout = ap (λ (x : RaceShape). x.slots) race.laid in
    let cards : k.cards ≡ card_count race.layout = ap (λ (x : RaceShape). x.cards) race.laid in
    let word = subst (λ (n : ℕ). get_elem? words n ≡ some c.see.result) (λ i. slots i + c.number.ensures i) c.see.ensures.word in
    let there = at_take words (k.slots + k.cards) (slot_count race.layout + c.args.card) c.see.result (omega (arith, slots, cards, c.requires.card)) word in
    let read = reads_as marks c.args.card (eqb c.see.result 1) false (marks_here e c.args.card c.see.result there) in
    let pending = same_bools _ _ (λ t. flag_pending marks c.args.card (read ∙ t)) (λ p. sym read ∙ pending_flag marks c.args.card p) in
    record { pending = pending; step = λ caller. pending_step caller (table_read race c.args.self.now) c.args.card _ c.requires.card pending }
