use Rattle.std.specs.Prelude.{◌∷◌, ◌++◌}
use Rattle.g1_replay.specs.{◌∙◌, List, [], ap, Step}
use Rattle.g1_steps.specs.declared.crew.desk.Step.TheVariants.{Flush}
use Rattle.g1_replay.proofs.races.jobs.race_script.Goals as goal

pub returns-in_ok-append-in-Mutate : goal.returns-in_ok-append-in-Mutate
returns-in_ok-append-in-Mutate c = λ all k e.
    let own = rw c.in-Mutate.is at (c.next_script.ensures all k e) in
    ((own.0.0, own.0.1, own.0.2, c.in_ok-append-in-Mutate.ensures.ok ∙ ap (λ (ss : List Step). ss ++ Flush ∷ []) own.0.3), own.1)
