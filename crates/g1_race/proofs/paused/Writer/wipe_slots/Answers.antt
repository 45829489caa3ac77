use Rattle.std.specs.Prelude.{◌≢◌, ◌⊎◌, ◌≤◌, ◌≡◌, ◌+◌, ◌*◌, ◌<◌}
use Rattle.g1_race.specs.{inl, inr, ℕ, suc, List, set, None, refl, ap, ◌∙◌, arith, get_elem?, cases_eq, set_else, set_here, Null, ended, table_of, nulled, words_of, sym, heap_of}
use Rattle.g1_race.proofs.{begun_placed, null_crosses, kind_null, quiet_store, slot_in, begun_on, writes_next, put_rises, rises_then}
use Rattle.g1_race.proofs.paused.Writer.wipe_slots.Goals as goal

-- a slot outside of the first ones is outside of all before
out_of : (first i q : ℕ) → (q < first) ⊎ (first + (i + 1) ≤ q) → (q ≢ first + i) × ((q < first) ⊎ (first + i ≤ q))
out_of first i q (inl low) = ((λ e. absurd (omega (arith, low, e))), inl low)
out_of first i q (inr high) = ((λ e. absurd (omega (arith, high, e))), inr (omega (arith, high)))

pub put_null-requires-clause-begun : goal.put_null-requires-clause-begun
put_null-requires-clause-begun c =
    let k = heap_of c.args.self.now in
    let p : ℕ = c.args.region * k.span + c.loop-i.i in
    begun_on c.loop-i.invariant.null.race (begun_placed k (words_of c.loop-i.self) p 0 (slot_in k c.args.region c.loop-i.i c.args.self.now.race.now.shaped c.requires c.loop-i-test.true) (inl (omega arith)) (λ cr. absurd (let no_one = null_crosses k p 0 refl in cc (cr, no_one))) c.loop-i.invariant.null.begun)

pub loop-i-preserved : goal.loop-i-preserved
loop-i-preserved c =
    let race = c.args.self.now.race.now in
    let k = race.shape in
    let i = c.loop-i.invariant in
    let words = words_of c.loop-i.self in
    let first : ℕ = c.args.region * k.span in
    let p : ℕ = first + c.loop-i.i in
    let lt : p < k.slots = slot_in k c.args.region c.loop-i.i race.shaped c.requires c.loop-i-test.true in
    let old = table_of (ended race.layout k (words_of c.args.self.now)) in
    let new = words_of c.put_null.new.self in
    record {
      table = (quiet_store k race.layout race.laid p lt None 0 refl (nulled first c.loop-i.i old) words new i.table c.put_null.ensures.words i.null.begun (begun_on (sym i.null.race) c.put_null.ensures.begun) Null (kind_null k race.layout race.laid p lt None 0 refl (table_of (ended race.layout k words)) refl) (λ e. cc)).1
          ∙ ap (λ (n : ℕ). nulled first n old) (let e : suc c.loop-i.i ≡ c.loop-i.i + 1 = omega arith in e);
      null = writes_next i.null.race i.null.reader c.put_null.ensures (λ put j low. ap (λ (ws : List ℕ). get_elem? ws (first + j)) put ∙ elim (cases_eq j c.loop-i.i) [
        | inl e ↦ ap (λ (m : ℕ). get_elem? (set words p 0) (first + m)) e ∙ set_here words p 0 (omega (arith, lt, i.null.begun.sized))
        | inr ne ↦ set_else words p (first + j) 0 (λ e. ne (omega (arith, e))) ∙ i.null.words j (omega (arith, low, ne))
      ]);
      flags = rises_then k (λ card. ⊥) (λ card. ⊥) (λ card. ⊥) (words_of c.args.self.now) words new (λ d e. e) (λ d e. e) i.flags (put_rises k (λ card. ⊥) words new p 0 (omega (arith, lt)) c.put_null.ensures.words);
      other = λ q out. ap (λ (ws : List ℕ). get_elem? ws q) c.put_null.ensures.words ∙ (set_else words p q 0 (out_of first c.loop-i.i q out).0 ∙ i.other q (out_of first c.loop-i.i q out).1);
    }
