use Rattle.std.specs.Prelude.{◌≤◌, ◌^◌, ◌-◌}
use Rattle.g1_replay.specs.{ℕ, List, Option, length, HasPart}
use Rattle.g1_replay.proofs.lines.line.rest_of_line.Given as goal

-- the last part that was taken belongs to the line
abbrev pub invariant-parts : goal.invariant-parts
invariant-parts g l = record {
  last : (begun : Option (List ℕ)) → HasPart begun (g.R.Read.remaining l.fn.input) l.fn.first l.fn.line.items → HasPart begun (g.R.Read.remaining l.input) l.part l.line.items;
  short : length l.line.items ≤ 64;
  counted : l.fn.reads ≤ l.reads;
  limit : l.fn.reads ≤ 2 ^ 40 → l.reads ≤ 2 ^ 40;
}

abbrev pub decreases-parts : goal.decreases-parts
decreases-parts g l = 2 ^ 40 - l.reads
