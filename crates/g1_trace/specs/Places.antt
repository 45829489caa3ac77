-- What may stand in the places behind the first word of a line.
use Rattle.std.specs.Prelude.{◌∷◌, if◌then◌else◌}
use Rattle.g1_trace.specs.Prelude.{ℕ, List, [], nat_lt, Result, Ok, Err, Option, Some, None, codes}
use Rattle.g1_trace.specs.Prelude.{bytes_eq, Shape, slot_count, card_count}
use Rattle.g1_trace.specs.declared.fault.TraceFault.{TraceFault}
use Rattle.g1_trace.specs.declared.fault.TraceFault.TheVariants.{Words, NoMutator, NoSlot, NoCard}
use Rattle.g1_trace.specs.declared.fault.TraceFault.TheVariants.{NoRegion}
use Rattle.g1_trace.specs.Words.{read_number, ◌>>=◌}

-- how a word in a place is read, and which of the values fit there
pub record Place (V : Type 0) : Type 0 where
  pub read : List ℕ → Result V TraceFault
  pub fit : V → Result V TraceFault

abbrev pub fit_below : ℕ → TraceFault → ℕ → Result ℕ TraceFault
fit_below limit fault n = if nat_lt n limit then Ok n else Err fault

abbrev pub number_below : ℕ → TraceFault → Place ℕ
number_below limit fault = record { read = read_number; fit = fit_below limit fault }

abbrev pub mutator_place : ℕ → Place ℕ
mutator_place mutators = number_below mutators NoMutator

abbrev pub slot_place : Shape → Place ℕ
slot_place l = number_below (slot_count l) NoSlot

abbrev pub card_place : Shape → Place ℕ
card_place l = number_below (card_count l) NoCard

abbrev pub region_place : Shape → Place ℕ
region_place l = number_below l.regions NoRegion

-- a number, or the word `null`
abbrev pub read_target : List ℕ → Result (Option ℕ) TraceFault
read_target word = if bytes_eq word (codes "null") then Ok None else (do
  n ← read_number word
  Ok (Some n))

abbrev pub fit_target : Shape → Option ℕ → Result (Option ℕ) TraceFault
fit_target l None = Ok None
fit_target l (Some n) = do
  slot ← fit_below (slot_count l) NoSlot n
  Ok (Some slot)

-- a slot, or the word `null`
abbrev pub target_place : Shape → Place (Option ℕ)
target_place l = record { read = read_target; fit = fit_target l }

-- any number
abbrev pub number_place : Place ℕ
number_place = record { read = read_number; fit = λ n. Ok n }

-- as many words as there are places: each is read before the first is held against its limit
abbrev pub read_none : List (List ℕ) → Result (Unit {0}) TraceFault
read_none [] = Ok tt
read_none _ = Err Words

abbrev pub read_one : {V : Type 0} → Place V → List (List ℕ) → Result V TraceFault
read_one p (a ∷ []) = do
  x ← p.read a
  p.fit x
read_one p _ = Err Words

abbrev pub read_two : {V W : Type 0} → Place V → Place W → List (List ℕ) → Result (V × W) TraceFault
read_two p q (a ∷ b ∷ []) = do
  x ← p.read a
  y ← q.read b
  v ← p.fit x
  w ← q.fit y
  Ok (v, w)
read_two p q _ = Err Words

abbrev pub read_three : {V W U : Type 0} → Place V → Place W → Place U → List (List ℕ)
    → Result (V × W × U) TraceFault
read_three p q r (a ∷ b ∷ c ∷ []) = do
  x ← p.read a
  y ← q.read b
  z ← r.read c
  v ← p.fit x
  w ← q.fit y
  u ← r.fit z
  Ok (v, w, u)
read_three p q r _ = Err Words
