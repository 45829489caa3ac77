use Rattle.std.specs.Prelude.{◌≡◌, ◌+◌}
use Rattle.g1_core.specs.{reads_after, copied, IsLater}
use Rattle.g1_core.proofs.CopyLemmas.{first_of}
use Rattle.g1_core.proofs.machinery.Core.copy_slots.Given as goal

abbrev pub invariant-loop-i : goal.invariant-loop-i
invariant-loop-i l = record {
  table : l.self.state.table ≡ copied (l.from + first_of l.upwards l.count l.i) (l.to + first_of l.upwards l.count l.i) l.i l.fn.self.state.table;
  ring : l.self.state.ring ≡ l.fn.self.state.ring;
  reads : l.self.reads ≡ reads_after l.fn.self.reads l.i;
  later : IsLater l.fn.self l.self;
}
