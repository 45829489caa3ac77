use Rattle.std.specs.Prelude.{◌≡◌}
use Rattle.g1_replay.specs.{[], List, ℕ, Some, None, subst, sym, rules, HasPart}
use Rattle.g1_replay.proofs.{err_is}
use Rattle.g1_replay.proofs.ReadingLemmas.{line_stopped, no_line, command_read, command_faulty}
use Rattle.g1_replay.proofs.lines.source.Commands.read_next.Goals as goal

pub returns-in_err-rest_of_line-clause-read : goal.returns-in_err-rest_of_line-clause-read
returns-in_err-rest_of_line-clause-read g c =
    let empty : c.new-line.result.items ≡ [] = search rules in
    rw (err_is _ c.from_residual.ensures.1) (λ begun part. line_stopped _ _ _ _ _ _ _ (c.in_err-rest_of_line.ensures.line begun (subst (λ (line : List ℕ). HasPart begun (g.R.Read.remaining c.args.input.now) c.args.part line) (sym empty) part)))

pub returns-then-not-branch-clause-read : goal.returns-then-not-branch-clause-read
returns-then-not-branch-clause-read g c =
    let empty : c.new-line.result.items ≡ [] = search rules in λ begun part.
    let line = rw c.if-not-branch.true at (c.in_ok-rest_of_line.ensures.line begun (subst (λ (line : List ℕ). HasPart begun (g.R.Read.remaining c.args.input.now) c.args.part line) (sym empty) part)) in
    no_line _ _ _ _ _ _ line

pub returns-in_err-command-clause-read : goal.returns-in_err-command-clause-read
returns-in_err-command-clause-read g c =
    let empty : c.new-line.result.items ≡ [] = search rules in
    rw (err_is _ c.from_residual-in_err-command.ensures.1) (λ begun part.
    let line = rw c.if-not-branch.false at (c.in_ok-rest_of_line.ensures.line begun (subst (λ (line : List ℕ). HasPart begun (g.R.Read.remaining c.args.input.now) c.args.part line) (sym empty) part)) in
    command_faulty _ _ _ _ _ _ _ line (rw c.as_slice.ensures.value at c.in_err-command.ensures.read))

pub returns-in-None-clause-read : goal.returns-in-None-clause-read
returns-in-None-clause-read g c =
    let empty : c.new-line.result.items ≡ [] = search rules in λ begun part.
    let line = rw c.if-not-branch.false at (c.in_ok-rest_of_line.ensures.line begun (subst (λ (line : List ℕ). HasPart begun (g.R.Read.remaining c.args.input.now) c.args.part line) (sym empty) part)) in
    command_read _ _ _ _ _ _ None line (rw (c.as_slice.ensures.value, c.in-None.is) at c.in_ok-command.ensures.read)

pub returns-in-Some-clause-read : goal.returns-in-Some-clause-read
returns-in-Some-clause-read g c =
    let empty : c.new-line.result.items ≡ [] = search rules in λ begun part.
    let line = rw c.if-not-branch.false at (c.in_ok-rest_of_line.ensures.line begun (subst (λ (line : List ℕ). HasPart begun (g.R.Read.remaining c.args.input.now) c.args.part line) (sym empty) part)) in
    command_read _ _ _ _ _ _ (Some c.in-Some.command) line (rw (c.as_slice.ensures.value, c.in-Some.is) at c.in_ok-command.ensures.read)
