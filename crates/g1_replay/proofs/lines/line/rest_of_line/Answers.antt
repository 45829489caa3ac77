use Rattle.g1_replay.specs.{Option, Bool, subst, Ok, IsSettled}
use Rattle.g1_replay.proofs.lines.line.rest_of_line.Goals as goal

pub returns-in-Some-clause-line : goal.returns-in-Some-clause-line
returns-in-Some-clause-line g c = λ begun p.
    subst (λ (o : Option Bool). IsSettled begun (g.R.Read.remaining c.settle.new.input) (Ok o) c.settle.new.line.items) c.in-Some.is (c.in_ok-found.ensures.settled begun (c.parts.invariant.last begun p))

pub returns-then-reads-ge-READ_LIMIT-clause-line : goal.returns-then-reads-ge-READ_LIMIT-clause-line
returns-then-reads-ge-READ_LIMIT-clause-line g c = λ begun p.
    subst (λ (o : Option Bool). IsSettled begun (g.R.Read.remaining c.settle.new.input) (Ok o) c.settle.new.line.items) c.in_default.is (c.in_ok-found.ensures.settled begun (c.parts.invariant.last begun p))
