use Rattle.g1_replay.specs.{running, Ok, Err, Fault}
use Rattle.g1_replay.proofs.EndLemmas.{replayed, run_read}
use Rattle.g1_replay.proofs.runs.engine.run.Goals as goal

pub returns : goal.returns
returns g c =
    let o = c.args.options.now in
    let told = c.play_trace-outcome.ensures in
    replayed (running o) (run_read o (Ok tt) (λ undone none. none)) (λ f. run_read o (Err (Fault f)) (λ undone none. none)) _ _ _ _ told.0 _ _ _ c.play_trace-outcome.result _ c.start-source.ensures told.1 told.2 c.put_end.ensures
