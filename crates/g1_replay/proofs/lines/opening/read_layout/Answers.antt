use Rattle.g1_replay.proofs.{err_is}
use Rattle.g1_replay.proofs.ReadingLemmas.{reads_then}
use Rattle.g1_replay.proofs.lines.opening.read_layout.Goals as goal

pub returns-in_err-next_header-clause-read : goal.returns-in_err-next_header-clause-read
returns-in_err-next_header-clause-read g c = rw (err_is _ c.from_residual.ensures.1) (λ d. reads_then d _ _ _ _ _ _ (c.lines.invariant d) (c.in_err-next_header.ensures.read d))

pub returns-in-Some-clause-read : goal.returns-in-Some-clause-read
returns-in-Some-clause-read g c =
    let read = rw c.in-Some.is at c.in_ok-next_header.ensures.read in
    λ d. reads_then d _ _ _ _ _ _ (c.lines.invariant d) (read d)

pub lines-preserved : goal.lines-preserved
lines-preserved g c =
    let read = rw c.in-None.is at c.in_ok-next_header.ensures.read in
    λ d. reads_then d _ _ _ _ _ _ (c.lines.invariant d) (read d)
