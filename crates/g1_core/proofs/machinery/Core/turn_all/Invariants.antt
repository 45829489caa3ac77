use Rattle.std.specs.Prelude.{◌≡◌, ◌≤◌, ◌*◌}
use Rattle.g1_core.specs.{length, take, vec_len, reads_after, turns, start}
use Rattle.g1_core.proofs.{round_at}
use Rattle.g1_core.proofs.machinery.Core.turn_all.Given as goal

abbrev pub invariant-loop-card : goal.invariant-loop-card
invariant-loop-card l = record {
  round : round_at l.self.state l.turns.refined.items l.turns.hot l.turns.skipped ≡ turns (start l.fn.self.state) (take l.card-index l.cards);
  refined : vec_len l.turns.refined ≤ l.card-index;
  room : length l.cards ≤ l.turns.refined.cap;
  hot : l.turns.hot ≤ l.card-index;
  skipped : l.turns.skipped ≤ l.card-index;
  settings : l.self.settings ≡ l.fn.self.settings;
  layout : l.self.state.table.layout ≡ l.fn.self.state.table.layout;
  reads : l.self.reads ≡ reads_after l.fn.self.reads (length l.turns.refined.items * l.fn.self.state.table.layout.slots);
}
