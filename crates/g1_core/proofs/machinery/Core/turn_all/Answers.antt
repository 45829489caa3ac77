use Rattle.std.specs.Prelude.{◌≡◌, ◌+◌, if◌then◌else◌}
use Rattle.g1_core.specs.{◌∙◌, ℕ, List, length, ap, refl, arith, Bool, true, length-append, Shape, State}
use Rattle.g1_core.proofs.{one_read, more_read, turns_more}
use Rattle.g1_core.proofs.machinery.Core.turn_all.Goals as goal

pub loop-card-preserved : goal.loop-card-preserved
loop-card-preserved c =
    let was = c.loop-card.invariant in
    record {
      round = turns_more c.args.self.now.state c.args.cards.now c.loop-card.card-index c.card-item.result c.loop-card.self.state c.turn.new.self.state c.loop-card.turns.refined.items c.note.new.self.refined.items
          c.loop-card.turns.hot c.note.new.self.hot c.loop-card.turns.skipped c.note.new.self.skipped c.in-Ok.offer c.loop-card-test.true c.card-item.is c.in-Ok.ensures.offer c.in-Ok.ensures.state
          c.note.ensures.refined c.note.ensures.hot c.note.ensures.skipped was.round;
      refined = omega (arith, was.refined, c.note.ensures.counts.2);
      room = omega (arith, was.room, c.note.ensures.capacity);
      hot = omega (arith, was.hot, c.note.ensures.counts.0);
      skipped = omega (arith, was.skipped, c.note.ensures.counts.1);
      settings = c.turn.ensures.settings ∙ was.settings;
      layout = ap (λ (s : State). s.table.layout) c.in-Ok.ensures.state ∙ was.layout;
      reads = more_read _ _ _ _ _ _ _ _ was.reads c.in-Ok.ensures.reads (ap (λ (l : Shape). l.slots) was.layout)
          (ap (λ (cards : List ℕ). length cards) c.note.ensures.refined ∙ length-append c.loop-card.turns.refined.items _);
    }

-- how many cards more a short reply has read at most
abbrev extra : Bool → ℕ
extra short = if short then 1 else 0

pub returns-in_default-clause-reads : goal.returns-in_default-clause-reads
returns-in_default-clause-reads c =
    let was = c.loop-card.invariant in
    let many : length c.reply.result.refined ≡ length c.loop-card.turns.refined.items = ap (λ (cards : List ℕ). length cards) c.reply.ensures.refined in
    let one : extra c.reply.result.short ≡ extra true = ap extra c.reply.ensures.short in
    record {
      tried = length c.loop-card.turns.refined.items + 1;
      each = omega (arith, many);
      most = omega (arith, many, one);
      reads = more_read _ _ _ _ _ _ _ _ was.reads (c.in_default.ensures.tried ∙ one_read _ _ 1 refl) (ap (λ (l : Shape). l.slots) was.layout) refl;
    }
