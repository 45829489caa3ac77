-- A heap that opens is one of nulls.
use Rattle.g1_race.specs.{ap, ◌∙◌, table_of, ended}
use Rattle.g1_race.proofs.Opening.{opening_table}
use Rattle.g1_race.proofs.paused.open.Paused.open.Goals as goal

pub returns-clause-table : goal.returns-clause-table
returns-clause-table c =
    let k = c.shape_of-shape.result in
    ap (λ me. table_of (ended c.args.layout k me.0.began_words)) c.in_ok-table.ensures.words ∙ opening_table c.args.layout k _ c.shape_of-shape.ensures.shape
