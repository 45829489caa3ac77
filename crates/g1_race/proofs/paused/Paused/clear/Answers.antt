-- A clear reads the words that it began with, until it empties the row.
use Rattle.std.proofs.Common.{refl, rules}
use Rattle.g1_race.specs.{ℕ, List, ap, subst, arith, Cleared, Pending, StillReferenced, IsStep, clear_entry, Into, HasBit, Pause, RaisesOnly, words_of}
use Rattle.g1_race.proofs.{clear_granted, clear_pending, clear_refused, at_pause, lent_begun, lent_numbers, lent_view, none_rises, of_a_pause}
use Rattle.g1_race.proofs.paused.Paused.clear.Goals as goal

pub returns-then-pending-gt0 : goal.returns-then-pending-gt0
returns-then-pending-gt0 g c =
    let race = c.race-race.result.now in
    record {
      race = search rules;
      words = search rules;
      step = λ caller. at_pause (λ t u. IsStep t (clear_entry caller c.args.region (Pending c.count-pending.result)) u) c.count-pending.new.self.start.words c.race-race.ensures c.self.view_is
          (clear_pending race.shape race.layout race.laid c.self.inside.reader.start.words _ (lent_begun c.race-race.ensures c.self.invariant.1) (ap (λ r. r.start.words) c.count-pending.ensures.same) caller c.args.region (lent_numbers c.race-race.ensures c.self.view_is c.requires)
          c.count-pending.result c.count-pending.ensures.count (omega (arith, c.if-pending-gt0.true)));
      refused = search rules;
      flags = search rules;
    }

pub returns-in-Some : goal.returns-in-Some
returns-in-Some g c =
    let race = c.race-race.result.now in
    record {
      race = search rules;
      words = search rules;
      step = λ caller. at_pause (λ t u. IsStep t (clear_entry caller c.args.region (StillReferenced c.in-Some-slot.slot)) u) c.entering.new.self.start.words c.race-race.ensures c.self.view_is
          (clear_refused race.shape race.layout race.laid c.self.inside.reader.start.words _ (lent_begun c.race-race.ensures c.self.invariant.1) (ap (λ r. r.start.words) c.count-pending.ensures.same) caller c.args.region (lent_numbers c.race-race.ensures c.self.view_is c.requires)
          c.count-pending.result c.count-pending.ensures.count c.if-pending-gt0.false c.number-number.result c.number-number.ensures c.in-Some.slot c.in-Some-slot.slot _ c.in-Some-slot.ensures.1 (ap (λ r. r.start.words) c.entering.ensures.same) c.in-Some.ensures.least);
      refused = search rules;
      flags = search rules;
    }

pub empty_row-requires-clause-none : goal.empty_row-requires-clause-none
empty_row-requires-clause-none g c =
    λ p x. c.in_default.ensures.least p (subst (λ (ws : List ℕ). Into c.race-race.result.now.shape ws c.number-number.result p) (ap (λ r. r.start.words) c.entering.ensures.same) x)

pub returns : goal.returns
returns g c =
    let race = c.race-race.result.now in
    let new = words_of c.empty_row.new.self in
    record {
      race = search rules;
      words = grind (arith, of_a_pause);
      step = λ caller. at_pause (λ t u. IsStep t (clear_entry caller c.args.region Cleared) u) new c.race-race.ensures c.self.view_is
          (clear_granted race.shape race.layout race.laid c.self.inside.reader.start.words _ (lent_begun c.race-race.ensures c.self.invariant.1) (ap (λ r. r.start.words) c.count-pending.ensures.same) caller c.args.region (lent_numbers c.race-race.ensures c.self.view_is c.requires)
          c.count-pending.result c.count-pending.ensures.count c.if-pending-gt0.false c.number-number.result c.number-number.ensures _ new (ap (λ r. r.start.words) c.entering.ensures.same) c.in_default.ensures.least c.empty_row.ensures.begun c.empty_row.ensures.words);
      refused = λ ne. absurd (ne refl);
      flags = subst (λ (h : Pause). RaisesOnly (λ card. ⊥) h.shape h.words new) (lent_view c.race-race.ensures c.self.view_is)
          (none_rises race.shape (λ card. ⊥) c.self.inside.reader.start.words new (λ x low b. subst (λ (l : List ℕ). HasBit race.shape l x) (ap (λ r. r.start.words) c.count-pending.ensures.same) (subst (λ (l : List ℕ). HasBit race.shape l x) (ap (λ r. r.start.words) c.entering.ensures.same) (c.empty_row.ensures.words.only x low b))));
    }
