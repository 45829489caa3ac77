use Rattle.std.proofs.Common.{rules}
use Rattle.std.specs.Prelude.{◌≡◌}
use Rattle.g1_race.specs.{ℕ, List, subst, Logged, Pause, RaisesOnly, slot_card, sym, ap, ◌∙◌, Table, kind_of, stored, ended, table_at, table_of, words_of}
use Rattle.g1_race.proofs.{held_table, lent_view, store_step}
use Rattle.g1_race.proofs.paused.Paused.store.Goals as goal

pub returns : goal.returns
returns g c =
    let race = c.race-race.result.now in
    let was : table_of (ended race.layout race.shape c.self.inside.reader.start.words) ≡ table_at c.args.self.now = ap table_at (lent_view c.race-race.ensures c.self.view_is) in
    let seen : table_of (ended race.layout race.shape c.kind_of-kind.new.self.start.words) ≡ table_at c.args.self.now = ap (λ r. table_of (ended race.layout race.shape r.start.words)) c.kind_of-kind.ensures.same ∙ was in
    record {
      race = search rules;
      words = search rules;
      kind_is = search rules;
      table = search rules;
      flags = subst (λ (h : Pause). RaisesOnly (λ card. (c.kind_of-kind.result ≡ Logged) × (card ≡ slot_card h.shape c.args.slot)) h.shape h.words (words_of c.store_as.new.self)) (lent_view c.race-race.ensures c.self.view_is)
          (subst (λ (ws : List ℕ). RaisesOnly (λ card. (c.kind_of-kind.result ≡ Logged) × (card ≡ slot_card race.shape c.args.slot)) race.shape ws (words_of c.store_as.new.self)) (ap (λ r. r.start.words) c.kind_of-kind.ensures.same) c.store_as.ensures.flags);
      step = λ caller. store_step (table_at c.args.self.now) _ caller c.args.slot c.args.target c.kind_of-kind.result c.requires.slot c.requires.target
          (c.kind_of-kind.ensures.kind ∙ ap (λ (t : Table). kind_of t c.args.slot c.args.target) was)
          (sym (held_table (words_of c.store_as.new.self) c.race-race.ensures) ∙ (c.store_as.ensures.table ∙ ap (λ (t : Table). stored t c.args.slot c.args.target) seen));
    }
