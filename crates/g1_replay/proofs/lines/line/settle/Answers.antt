use Rattle.g1_replay.specs.{subst, HasPart, Part}
use Rattle.g1_replay.proofs.{settled_whole, settled_more, nothing_shown}
use Rattle.g1_replay.proofs.lines.line.settle.Goals as goal

pub returns-in-Whole-clause-settled : goal.returns-in-Whole-clause-settled
returns-in-Whole-clause-settled g c = λ begun p. settled_whole _ _ _ (subst (λ (part : Part). HasPart begun (g.R.Read.remaining c.args.input.now) part c.args.line.now.items) c.in-Whole.is p)

pub returns-in-More-clause-settled : goal.returns-in-More-clause-settled
returns-in-More-clause-settled g c = λ begun p. settled_more _ _ _ (subst (λ (part : Part). HasPart begun (g.R.Read.remaining c.args.input.now) part c.args.line.now.items) c.in-More.is p)

pub returns-in-Nothing-2-clause-settled : goal.returns-in-Nothing-2-clause-settled
returns-in-Nothing-2-clause-settled g c = λ begun p.
    let shown = nothing_shown _ _ _ (subst (λ (part : Part). HasPart begun (g.R.Read.remaining c.args.input.now) part c.args.line.now.items) c.in-Nothing.is p) in
    c.settle_byte.ensures.settled begun _ _ shown.0 shown.1 c.read_byte-byte.ensures
