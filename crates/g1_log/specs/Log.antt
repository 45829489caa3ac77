-- What contracts see of a log: its cards, oldest first.
use Rattle.std.specs.Prelude.{◌∷◌, ◌++◌, ◌+◌, ◌≤◌, ◌<◌, if◌then◌else◌}
use Rattle.g1_log.specs.Prelude.{ℕ, List, [], Option, Some, None, length, nat_lt, refl, Coded}
use Rattle.g1_log.specs.Prelude.{code_by, coded×, coded_ℕ, coded_list}

pub record Cards : Type 0 where
  pub size : ℕ  -- how many cards fill the log
  pub cards : List ℕ

-- a log is stored as the pair of its size and its cards
abbrev pub cards_code : Coded Cards
cards_code =
    code_by (ℕ × List ℕ) (coded× coded_ℕ (coded_list coded_ℕ)) (λ l. (l.size, l.cards))
    (λ p. record { size = p.0; cards = p.1 }) (λ _. refl)

-- what every log keeps: its size is within the limits, and it is not full
pub record IsLog (l : Cards) : Type 0 where
  pub low : 1 ≤ l.size
  pub high : l.size ≤ 256
  pub room : length l.cards < l.size

-- the log after a push, and the buffer that it hands out where that filled it
abbrev pub pushed : Cards → ℕ → Cards
pushed l card = record {
  size = l.size;
  cards = if nat_lt (length l.cards + 1) l.size then l.cards ++ card ∷ [] else [];
}

abbrev pub handed : Cards → ℕ → Option (List ℕ)
handed l card = if nat_lt (length l.cards + 1) l.size then None else Some (l.cards ++ card ∷ [])
