-- A store of data is one of null to the table.
use Rattle.std.proofs.Common.{arith, rules}
use Rattle.std.specs.Prelude.{◌≡◌, ◌<◌, ◌≤◌, ◌^◌}
use Rattle.g1_race.specs.{RaisesOnly, List, ℕ, None, set, sym, ap, ◌∙◌, subst, inr, Null, RaceShape, IsBegun, started, kind_of, stored, shape_of, WordsBecome, one_word, Pause, ended, table_at, table_of, words_of}
use Rattle.g1_layout.specs.Shape as layout
use Rattle.g1_race.proofs.{begun_placed, target_data, kind_data, quiet_store, store_step, put_words, data_crosses, held_table, lent_begun, lent_slot, lent_view, put_rises}
use Rattle.g1_race.proofs.paused.Paused.store_data.Goals as goal

pub put-requires-clause-begun : goal.put-requires-clause-begun
put-requires-clause-begun g c =
    let k = c.race-race.result.now.shape in
    let words = c.self.inside.reader.start.words in
    subst (λ (p : ℕ). IsBegun (started k (set words p c.args.word))) (sym c.number.ensures)
    (begun_placed k words c.args.slot c.args.word (lent_slot c.race-race.ensures c.self.view_is c.requires.slot) (inr c.requires.high) (λ cr. absurd (let no_one = data_crosses k c.args.slot c.args.word c.requires.high in cc (cr, no_one))) (lent_begun c.race-race.ensures c.self.invariant.1))

-- the new kind and table
data_stored : (k : RaceShape) (l : layout.Shape) (words after : List ℕ) (h : Pause) (p word : ℕ) → k ≡ shape_of l k.parties → p < k.slots → 2 ^ 32 ≤ word
    → table_of (ended l k words) ≡ table_at h → after ≡ set words p word → IsBegun (started k words) → IsBegun (started k after)
    → (Null ≡ kind_of (table_at h) p None) × (table_of (ended l k after) ≡ stored (table_at h) p None)
data_stored k l words after h p word laid lt high was is begun then_begun =
    let back = target_data word high in
    let kind = kind_data k l laid p lt None word back (table_of (ended l k words)) high in
    quiet_store k l laid p lt None word back (table_at h) words after was is begun then_begun Null kind (λ e. cc)

both : (g : _) (c : goal.After-put g) → (Null ≡ kind_of (table_at c.args.self.now) c.args.slot None) × (table_of (ended c.race-race.result.now.layout c.race-race.result.now.shape (words_of c.put.new.self)) ≡ stored (table_at c.args.self.now) c.args.slot None)
both g c = data_stored c.race-race.result.now.shape c.race-race.result.now.layout c.self.inside.reader.start.words _ c.args.self.now c.args.slot c.args.word c.race-race.result.now.laid (lent_slot c.race-race.ensures c.self.view_is c.requires.slot) c.requires.high
    (ap table_at (lent_view c.race-race.ensures c.self.view_is)) (c.put.ensures.words ∙ (λ i. set c.self.inside.reader.start.words (c.number.ensures i) c.args.word)) (lent_begun c.race-race.ensures c.self.invariant.1) c.put.ensures.begun

pub returns : goal.returns
returns g c =
    let k = c.race-race.result.now.shape in
    let words = c.self.inside.reader.start.words in
    let table = sym (held_table (words_of c.put.new.self) c.race-race.ensures) ∙ (both g c).1 in
    record {
      high = c.requires.high;
      race = search rules;
      words = subst (λ (h : Pause). WordsBecome (one_word c.args.slot c.args.word) h.shape h.words (words_of c.put.new.self)) (lent_view c.race-race.ensures c.self.view_is)
          (put_words k words c.args.slot c.args.word _ (c.put.ensures.words ∙ (λ i. set words (c.number.ensures i) c.args.word)));
      table = table;
      flags = subst (λ (h : Pause). RaisesOnly (λ card. ⊥) h.shape h.words (words_of c.put.new.self)) (lent_view c.race-race.ensures c.self.view_is)
          (put_rises k (λ card. ⊥) words _ c.args.slot c.args.word (let lt = lent_slot c.race-race.ensures c.self.view_is c.requires.slot in omega (arith, lt)) (c.put.ensures.words ∙ (λ i. set words (c.number.ensures i) c.args.word)));
      step = λ caller. store_step (table_at c.args.self.now) _ caller c.args.slot None Null c.requires.slot tt (both g c).0 table;
    }
