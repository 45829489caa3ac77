-- The first i stores are of the heap and were made, and each logged one card at most.
use Rattle.std.specs.Prelude.{◌≡◌, ◌≤◌}
use Rattle.g1_handles.specs.{length, take, made_all, AreStoresOf}
use Rattle.g1_handles.proofs.one_core.batch.store_all_in.Given as goal

abbrev pub invariant-loop-i : goal.invariant-loop-i
invariant-loop-i l =
    (record { machine = l.core; cards = l.cards.items } ≡ made_all l.initial.core (take l.i l.stores)) ×
    (length l.cards.items ≤ l.i) ×
    (l.core.state.table.layout ≡ l.initial.core.state.table.layout) ×
    AreStoresOf l.initial.core.state.table.layout (take l.i l.stores)
