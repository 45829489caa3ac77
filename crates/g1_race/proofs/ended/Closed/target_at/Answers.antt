use Rattle.std.specs.Prelude.{◌≡◌, ◌<◌, ◌+◌}
use Rattle.g1_race.specs.{ℕ, List, Option, ap, sym, ◌∙◌, subst, arith, some, get_elem?, slot_count, RaceShape, shape_of, Ended, ended, at_take}
use Rattle.g1_layout.specs.Shape as layout
use Rattle.g1_race.proofs.{refs_here}
use Rattle.g1_race.proofs.ended.Closed.target_at.Goals as goal

-- the slot's word, in the table
at_word : (l : layout.Shape) (k : RaceShape) (words : List ℕ) (e : Ended) (slot n : ℕ) → ended l k words ≡ e → k ≡ shape_of l k.parties → slot < slot_count e.layout → get_elem? words slot ≡ some n → get_elem? e.words slot ≡ some n
at_word l k words e slot n is laid lt at =
    let slots : k.slots ≡ slot_count l = ap (λ (s : RaceShape). s.slots) laid in
    let same : slot_count l ≡ slot_count e.layout = ap (λ (x : Ended). slot_count x.layout) is in
    subst (λ (x : Ended). get_elem? x.words slot ≡ some n) is (at_take words (k.slots + k.cards) slot n (omega arith) at)

pub returns-clause-refers : goal.returns-clause-refers
returns-clause-refers c =
    let e = c.args.self.now in
    refs_here e c.args.slot c.word-word.result c.requires (at_word c.self.inside.layout c.self.inside.shape _ e c.args.slot c.word-word.result c.self.view_is c.self.invariant.0.laid c.requires c.word-word.ensures) ∙ ap (λ (t : Option ℕ). some t) (sym c.refers_to.ensures.target)
