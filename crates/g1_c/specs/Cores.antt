-- What the exported calls on a core do, by their words.
use Rattle.std.specs.Prelude.{◌≡◌, ◌==◌, if◌then◌else◌}
use Rattle.g1_c.specs.Prelude.{ℕ, List, Machine, made_all, AreStoresOf}
use Rattle.g1_core.specs.declared.reply.Drained.{Drained}
use Rattle.g1_core.specs.declared.reply.Drained.TheVariants as drained
use Rattle.g1_core.specs.declared.reply.Redirected.{Redirected}
use Rattle.g1_core.specs.declared.reply.Redirected.TheVariants as redirected
use Rattle.g1_handles.specs.declared.one_core.batch.Store.{Store}

-- these stores, of slots and targets that the heap has, are made in order, and logged these cards
pub record AreStored (old : Machine) (stores : List Store) (cards : List ℕ) (new : Machine)
    : Type 0 where
  pub within : AreStoresOf old.state.table.layout stores
  pub made : record { machine = new; cards = cards } ≡ made_all old stores

-- the answer of a drain that C is told by a word (0 where it is not short)
abbrev pub drained_of : ℕ → List ℕ → List ℕ → Drained
drained_of word cards refined =
    if word == 0 then drained.Cards cards refined else drained.Short refined

-- the same of a redirect
abbrev pub redirected_of : ℕ → ℕ → List ℕ → Redirected
redirected_of word moved refined =
    if word == 0 then redirected.Moved moved refined else redirected.Short refined
