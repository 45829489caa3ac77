-- What a count's reciprocal is: its multiplier, which is the first number above the scaled-up
-- reciprocal.
use Rattle.std.specs.Prelude.{◌≡◌, ℕ, ◌+◌, ◌*◌, ◌/◌, ◌<◌, ◌^◌}

abbrev pub multiplier_of : ℕ → ℕ → ℕ
multiplier_of scale divisor = scale / divisor + 1

pub record IsReciprocal (scale divisor multiplier : ℕ) : Type 0 where
  pub some : 0 < divisor
  pub multiplier_is : multiplier ≡ multiplier_of scale divisor

-- A number is divided exactly, by a product of 64 bits.
pub record IsDivided (scale divisor number : ℕ) : Type 0 where
  pub exact : number * divisor < scale
  pub fits : number * multiplier_of scale divisor < 2 ^ 64
