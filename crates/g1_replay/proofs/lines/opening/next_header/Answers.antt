use Rattle.g1_replay.specs.{arith, [], refl, None}
use Rattle.g1_replay.proofs.{err_is}
use Rattle.g1_replay.proofs.ReadingLemmas.{line_stopped, no_header, line_read, line_faulty}
use Rattle.g1_replay.proofs.lines.opening.next_header.Goals as goal

pub returns-in_err-next_line-clause-read : goal.returns-in_err-next_line-clause-read
returns-in_err-next_line-clause-read g c = rw (err_is _ c.from_residual.ensures.1) (λ d. line_stopped d _ _ _ _ _ _ c.in_err-next_line.ensures.line)

pub returns-then-not-branch-clause-read : goal.returns-then-not-branch-clause-read
returns-then-not-branch-clause-read g c =
    let line = rw c.if-not-branch.true at c.in_ok-next_line.ensures.line in
    λ d. no_header d _ _ _ _ line

pub returns-in_err-heap-clause-read : goal.returns-in_err-heap-clause-read
returns-in_err-heap-clause-read g c =
    let line = rw c.if-not-branch.false at c.in_ok-next_line.ensures.line in
    let read = rw c.as_slice.ensures.value at c.in_err-heap.ensures in
    rw (err_is _ c.from_residual-in_err-heap.ensures.1) (λ d. line_faulty d None _ _ _ _ _ line (rw (← read) refl))

pub returns-clause-read : goal.returns-clause-read
returns-clause-read g c =
    let line = rw c.if-not-branch.false at c.in_ok-next_line.ensures.line in
    let read = rw c.as_slice.ensures.value at c.in_ok-heap.ensures in
    λ d. line_read d None _ _ _ _ _ [] (omega arith) line (rw (← read) refl)
