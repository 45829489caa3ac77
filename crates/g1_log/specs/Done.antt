-- What contracts see of the completed buffers of one thread: the cards of each, oldest buffer
-- first.
use Rattle.std.specs.Prelude.{◌∷◌, ◌++◌, ◌≤◌}
use Rattle.g1_log.specs.Prelude.{ℕ, List, [], drop, length, refl, Coded, code_by, coded×, coded_ℕ}
use Rattle.g1_log.specs.Prelude.{coded_list}

pub record Completed : Type 0 where
  pub limit : ℕ  -- how many buffers there may be
  pub buffers : List (List ℕ)

-- completed buffers are stored as the pair of their limit and their list
abbrev pub completed_code : Coded Completed
completed_code =
    code_by (ℕ × List (List ℕ)) (coded× coded_ℕ (coded_list (coded_list coded_ℕ)))
    (λ d. (d.limit, d.buffers))
    (λ p. record { limit = p.0; buffers = p.1 }) (λ _. refl)

-- what completed buffers keep: the limit is within its limits, and there are no more buffers
pub record IsCompleted (d : Completed) : Type 0 where
  pub low : 1 ≤ d.limit
  pub high : d.limit ≤ 1024
  pub room : length d.buffers ≤ d.limit

-- these buffers with one more, the youngest
abbrev pub added : Completed → List ℕ → Completed
added d cards = record { limit = d.limit; buffers = d.buffers ++ cards ∷ [] }

-- a buffer of these cards, or none where there are no cards
abbrev pub buffer_if_some : List ℕ → List (List ℕ)
buffer_if_some [] = []
buffer_if_some (card ∷ cards) = (card ∷ cards) ∷ []

-- the buffers without the first n cards of the oldest, and without it where none is left
abbrev pub oldest_cut : ℕ → List (List ℕ) → List (List ℕ)
oldest_cut n [] = []
oldest_cut n (oldest ∷ others) = buffer_if_some (drop n oldest) ++ others
