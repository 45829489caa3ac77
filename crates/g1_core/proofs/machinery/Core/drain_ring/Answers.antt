use Rattle.g1_core.specs.{ap, arith, length, sym}
use Rattle.g1_core.proofs.DrainLemmas.{ring_none, ring_more}
use Rattle.g1_core.proofs.machinery.Core.drain_ring.Goals as goal

pub loop-self-init : goal.loop-self-init
loop-self-init c = record {
  drained = ring_none c.args.self.now c.args.refined.now.items c.reads-reads.ensures.bound c.requires.empty;
  room = omega (arith, c.requires.room, ap length c.requires.empty);
}

pub loop-self-preserved : goal.loop-self-preserved
loop-self-preserved c = record {
  drained = ring_more c.args.self.now c.loop-self.self c.drain_oldest.new.self c.loop-self.refined.items c.push_reserved.new.self.items c.in_ok-card.card c.loop-self.invariant.drained (sym c.in_ok-card.ensures.card) c.in_ok-card.ensures.ok c.push_reserved.ensures.items;
  room = omega (arith, c.loop-self.invariant.room, c.in_ok-card.ensures.ok.fewer, c.push_reserved.ensures.len, c.push_reserved.ensures.capacity);
}
