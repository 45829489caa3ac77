use Rattle.std.proofs.Common.{arith, rules}
use Rattle.std.specs.Prelude.{◌≡◌, ◌+◌, ◌*◌, ◌/◌, ◌%◌, ◌<◌}
use Rattle.g1_race.specs.{ℕ, mod-lt, div-add-mod', sym, ap, ◌∙◌, subst, some, get_elem?, Table, target_of, RaceShape, RaisesOnly, Pause, words_of}
use Rattle.g1_race.proofs.{slot_in, slot_gives, held_table, lent_region, lent_view, wiped_words}
use Rattle.g1_race.proofs.paused.Paused.wipe.Goals as goal

pub returns : goal.returns
returns g c =
    let race = c.race-race.result.now in
    let k = race.shape in
    let words = (words_of c.wipe_slots.new.self) in
    let low : c.number.result < k.regions = lent_region c.race-race.ensures c.self.view_is c.number.ensures c.requires in
    let span : k.span ≡ c.args.self.now.layout.cards * c.args.self.now.layout.slots = ap (λ (s : RaceShape). s.span) race.laid ∙ ap (λ (h : Pause). h.layout.cards * h.layout.slots) (lent_view c.race-race.ensures c.self.view_is) in
    record {
      within = c.requires;
      race = search rules;
      words = grind (arith, wiped_words, lent_view);
      table = search rules;
      flags = subst (λ (h : Pause). RaisesOnly (λ card. ⊥) h.shape h.words words) (lent_view c.race-race.ensures c.self.view_is) c.wipe_slots.ensures.flags;
      null = λ slot e.
          let on : slot / k.span ≡ c.number.result = ap (λ (s : ℕ). slot / s) span ∙ (e ∙ sym c.number.ensures) in
          let is : c.number.result * k.span + slot % k.span ≡ slot = ap (λ (r : ℕ). r * k.span + slot % k.span) (sym on) ∙ div-add-mod' slot k.span in
          let below : slot % k.span < k.span = mod-lt slot race.shaped.2 in
          ap (λ (t : Table). target_of t slot) (sym (held_table words c.race-race.ensures)) ∙ slot_gives k race.layout words slot 0 race.laid (subst (λ (s : ℕ). s < k.slots) is (slot_in k c.number.result (slot % k.span) race.shaped low below)) (subst (λ (s : ℕ). get_elem? words s ≡ some 0) is (c.wipe_slots.ensures.null.words (slot % k.span) below));
    }
