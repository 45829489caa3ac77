use Rattle.std.specs.Prelude.{◌≤◌}
use Rattle.g1_steps.specs.{[], arith, sym, subst, append-nil, replicate, take-replicate, length-replicate, AskWork}
use Rattle.g1_steps.proofs.{answered_more, cut_round, rounds_more}
use Rattle.g1_steps.proofs.crew.worker.refiner.Goals as goal

pub loop-made-preserved : goal.loop-made-preserved
loop-made-preserved g c =
    let was = c.loop-made.invariant in
    let more = rounds_more c.loop-made.made in (
      subst (λ l. g.D.Desk.did c.args.desk.now l c.work.new.self) (sym more) (g.met.D.Desk.then _ _ _ _ _ was.0 c.in_default.ensures.ok),
      answered_more _ _ _ _ _ _ _ was.1 (c.in_default.field-0, c.in_default.ensures.reply) more,
    )

pub returns-in-Err-clause-asked : goal.returns-in-Err-clause-asked
returns-in-Err-clause-asked g c =
    let n = c.loop-made.made in
    let xs = replicate n AskWork in
    let all = g.met.D.Desk.then c.args.desk.now c.loop-made.desk c.work.new.self xs [] c.loop-made.invariant.0 c.in-Err.ensures.err in
    let below : n ≤ c.args.rounds = omega arith in
    (omega (arith, length-replicate c.args.rounds AskWork), rw (take-replicate n c.args.rounds AskWork below) (rw append-nil at all))

pub returns-in-Err-clause-ends : goal.returns-in-Err-clause-ends
returns-in-Err-clause-ends g c = cut_round _ _ c.args.rounds c.loop-made.made _ _ _ _ (omega arith) c.loop-made.invariant.1 c.in-Err.ensures.refusal
