use Rattle.g1_core.specs.{refl}
use Rattle.g1_core.proofs.DrainLemmas.{short_dirty, all_drained}
use Rattle.g1_core.proofs.{err_holds}
use Rattle.g1_core.proofs.machinery.Core.drain_pending.Goals as goal

pub returns-in_err-drain_dirty-clause-err : goal.returns-in_err-drain_dirty-clause-err
returns-in_err-drain_dirty-clause-err c = err_holds _ (short_dirty c.args.self.now c.drain_ring.new.self c.drain_ring.new.refined.items _ c.in_ok-drain_ring.ensures.ok c.in_ok-drain_ring.ensures.whole c.drain_dirty.new.self c.drain_dirty.new.refined.items c.in_err-drain_dirty.ensures.err refl)

pub returns-clause-ok : goal.returns-clause-ok
returns-clause-ok c = all_drained c.args.self.now c.drain_ring.new.self c.drain_ring.new.refined.items _ c.in_ok-drain_ring.ensures.ok c.in_ok-drain_ring.ensures.whole c.drain_dirty.new.self c.drain_dirty.new.refined.items
    c.in_ok-drain_dirty.ensures.ok.0 c.in_ok-drain_dirty.ensures.ok.1 refl c.in_ok-drain_dirty.ensures.whole
