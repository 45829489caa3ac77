-- What the exported stores do.
use Rattle.std.specs.Prelude.{◌≡◌, ◌⊎◌}
use Rattle.g1_c.specs.Prelude.{ℕ, Kind, OfKind}

-- a racer made a store that it could make, and the word is that of its kind
pub record StoresAs (kind : ℕ) (Can : Type 0) (Stored : Kind → Type 0) : Type 0 where
  pub can : Can
  pub stored : OfKind kind Stored

-- what a compare-and-swap came to, by its word: it stored (0), or found something else (2)
pub record ComparesAndSwaps (word : ℕ) (Can Stored Differs : Type 0) : Type 0 where
  pub can : Can
  pub stored : word ≡ 0 → Stored
  pub differs : word ≡ 2 → Differs
  pub done : (word ≡ 0) ⊎ (word ≡ 2)

-- what several stores came to, by a word: all of them are made (0), or those before one that cannot
-- be (3), or before one for which a log has no room (4)
pub record StoresSeveral (word : ℕ) (Made Whole Stopped Full : Type 0) : Type 0 where
  pub made : Made
  pub whole : word ≡ 0 → Whole
  pub stopped : word ≡ 3 → Stopped
  pub full : word ≡ 4 → Full
  pub done : (word ≡ 0) ⊎ (word ≡ 3) ⊎ (word ≡ 4)
