use Rattle.std.specs.Prelude.{◌≡◌}
use Rattle.g1_core.specs.{ap, arith, card_count}
use Rattle.g1_core.specs.Table.{Table}
use Rattle.g1_core.proofs.DrainLemmas.{dirty_more, dirty_all}
use Rattle.g1_core.proofs.machinery.Core.drain_dirty.Goals as goal

pub loop-card-preserved : goal.loop-card-preserved
loop-card-preserved c =
    let was = c.loop-card.invariant in
    let cards : card_count c.drain_card.new.self.state.table.layout ≡ card_count c.loop-card.self.state.table.layout = ap (λ (t : Table). card_count t.layout) c.in_ok-drain_card.ensures.ok.table in
    record {
      drained = rw c.number-from.ensures (dirty_more c.args.self.now c.loop-card.self c.drain_card.new.self c.args.refined.now.items c.loop-card.refined.items c.push_reserved.new.self.items c.loop-card.from c.in-Some.card was.drained c.in-Some.ensures.dirty c.in-Some.ensures.within.0 c.in-Some.ensures.first c.in_ok-drain_card.ensures.ok c.push_reserved.ensures.items);
      room = omega (arith, was.room, c.in_ok-drain_card.ensures.ok.fewer, c.push_reserved.ensures.len, c.push_reserved.ensures.capacity);
      within = omega (arith, cards, c.number-from.ensures, c.in-Some.ensures.within.1);
    }

pub returns-clause-whole : goal.returns-clause-whole
returns-clause-whole c = dirty_all c.args.self.now c.loop-card.self c.args.refined.now.items c.loop-card.refined.items c.loop-card.from c.loop-card.invariant.drained c.in_default.ensures.none
