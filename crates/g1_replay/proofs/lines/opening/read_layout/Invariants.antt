use Rattle.std.specs.Prelude.{◌^◌, ◌-◌}
use Rattle.g1_replay.specs.{[], None, true, Ok, Dialect, Reads, place}
use Rattle.g1_replay.proofs.lines.opening.read_layout.Given as goal

-- what was passed over so far
abbrev pub invariant-lines : goal.invariant-lines
invariant-lines g l = (d : Dialect) → Reads d (place None l.fn.source.number (g.R.Read.remaining l.fn.input)) (place None l.source.number (g.R.Read.remaining l.input)) [] (Ok true)

abbrev pub decreases-lines : goal.decreases-lines
decreases-lines g l = 2 ^ 40 - l.source.reads
