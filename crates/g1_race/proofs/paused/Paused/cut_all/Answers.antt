use Rattle.std.specs.Prelude.{◌<◌}
use Rattle.g1_race.specs.{length, arith, Contains, region_of}
use Rattle.g1_race.proofs.{IsOfFirst, cuts_as, regions_on}
use Rattle.g1_race.proofs.paused.Paused.cut_all.Goals as goal

pub loop-i-preserved : goal.loop-i-preserved
loop-i-preserved g c = regions_on c.args.self.now c.loop-i.self c.cut_region.new.self c.args.regions.now c.loop-i.i c.loop-i-test.true c.loop-i.invariant c.cut_region.ensures

pub returns : goal.returns
returns g c =
    let regions = c.args.regions.now in
    cuts_as c.args.self.now c.loop-i.self (IsOfFirst c.args.self.now regions c.loop-i.i) (λ slot. Contains regions (region_of c.args.self.now.layout slot))
    (λ slot h. (h.0, let lt : h.0 < c.loop-i.i = h.1 in omega (arith, lt, c.loop-i.auto.i-end), h.2))
    (λ slot h. (h.0, let lt : h.0 < length regions = h.1 in omega (arith, lt, c.loop-i-test.false), h.2)) c.loop-i.invariant
