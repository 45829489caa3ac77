-- What an exported call makes of a handle that it opens or closes.
use Rattle.std.specs.Prelude.{◌≡◌}
use Rattle.g1_c.specs.Prelude.{Option, None}

-- a closed handle is open
pub record Opens {V : Type 0} (old : Option V) (IsOpen : Type 0) : Type 0 where
  pub closed : old ≡ None
  pub opened : IsOpen

-- a handle that was open is closed
pub record Closes {V : Type 0} (WasOpen : Type 0) (new : Option V) : Type 0 where
  pub was_open : WasOpen
  pub closed : new ≡ None
