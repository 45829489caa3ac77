use Rattle.std.specs.Prelude.{◌≡◌, ◌+◌, ◌<◌}
use Rattle.g1_race.specs.{List, ℕ, Option, None, ap, sym, ◌∙◌, subst, arith, some, get_elem?, slot_count, target_step, RaceShape, shape_of, ended, refs_of, table_read, at_take, reads_as}
use Rattle.g1_layout.specs.Shape as layout
use Rattle.g1_race.proofs.{refs_here}
use Rattle.g1_race.proofs.paused.reading.Reader.target.Goals as goal

-- a slot's word among those of slots and marks
front_word : (l : layout.Shape) (k : RaceShape) (words : List ℕ) (p n : ℕ) → k ≡ shape_of l k.parties → p < slot_count l → get_elem? words p ≡ some n → get_elem? (ended l k words).words p ≡ some n
front_word l k words p n laid lt at = at_take words (k.slots + k.cards) p n (let e : k.slots ≡ slot_count l = ap (λ (x : RaceShape). x.slots) laid in omega (arith, e, lt)) at

pub returns-clause-told : goal.returns-clause-told
returns-clause-told c =
    let race = c.args.race.now in
    let words = c.args.self.now.start.words in
    let e = ended race.layout race.shape words in
    let word = subst (λ (i : ℕ). get_elem? words i ≡ some c.see-word.result) c.number.ensures c.see-word.ensures.word in
    let there = front_word race.layout race.shape words c.args.slot c.see-word.result race.laid c.requires.slot word in
    let refers = sym (reads_as (refs_of e) c.args.slot c.refers_to.result None (refs_here e c.args.slot c.see-word.result c.requires.slot there ∙ ap (λ (t : Option ℕ). some t) (sym c.refers_to.ensures.target))) in
    record {
      refers = refers;
      within = c.refers_to.ensures.within;
      step = λ caller. target_step caller (table_read race c.args.self.now) c.args.slot c.refers_to.result c.requires.slot refers;
    }
