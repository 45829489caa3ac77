use Rattle.std.specs.Prelude.{◌≡◌, ◌≤◌, ◌<◌, ◌-◌}
use Rattle.g1_race.specs.{ℕ, IsRecordedInto, table_read}
use Rattle.g1_race.proofs.paused.reading.Reader.next_into.Given as goal

abbrev pub invariant-loop-number : goal.invariant-loop-number
invariant-loop-number l = record {
  same : l.self ≡ l.fn.self;
  past : l.from ≤ l.next;
  none : (c : ℕ) → l.from ≤ c → c < l.next → IsRecordedInto (table_read l.race l.fn.self) l.regions c → ⊥;
}

abbrev pub decreases-loop-number : goal.decreases-loop-number
decreases-loop-number l = l.race.shape.cards - l.next
