use Rattle.std.specs.Prelude.{◌≤◌, ◌-◌}
use Rattle.g1_replay.specs.{length, arith, subst, unwrap_or, EndsAtFeed, YieldsFirst}
use Rattle.g1_replay.proofs.{feed_found}
use Rattle.g1_replay.proofs.lines.line.part_len.Goals as goal

-- what the search found
first : (c : goal.After-unwrap_or) → EndsAtFeed c.args.bytes.now (unwrap_or c.next.result (length c.args.bytes.now)) × (unwrap_or c.next.result (length c.args.bytes.now) ≤ length c.args.bytes.now)
first c = feed_found c.args.bytes.now 0 (length c.args.bytes.now - 0) c.next.result c.next.new.self (omega arith) tt
    (subst (λ l. YieldsFirst (λ m. m) l c.next.result c.next.new.self) c.memchr_iter.ensures.value c.next.ensures.steps)

pub returns-clause-bound : goal.returns-clause-bound
returns-clause-bound c = rw c.unwrap_or.ensures (first c).1

pub returns-clause-ends : goal.returns-clause-ends
returns-clause-ends c = rw c.unwrap_or.ensures (first c).0
