-- What the end of an evacuation does to its collection set.
use Rattle.std.specs.Prelude.{◌≡◌, ◌≤◌, ◌∷◌}
use Rattle.g1_race.specs.Prelude.{ℕ, List, [], Option, Some, None, fold, map, All, Contains, Entry}
use Rattle.g1_race.specs.Prelude.{Table, Crosses, IsRecorded, target_of, stored, IsStep, region_of}
use Rattle.g1_race.specs.Prelude.{card_of, region_of_card, store_entry, unfilled, Null, clear_entry}
use Rattle.g1_race.specs.Prelude.{Pending, StillReferenced, Cleared}
use Rattle.std.specs.FinSet as set
use Rattle.g1_core.specs.declared.reply.ClearReply.{ClearReply}
use Rattle.g1_race.specs.Over.{Pause, table_at}
use Rattle.g1_race.specs.Evacuating.{IsSameRace, SlotsBecome, same_word, one_word, NoFlagRises}
use Rattle.g1_race.specs.Evacuating.{forgotten}

-- the slot lies outside these regions and refers into one of them
pub record EntersAny (table : Table) (regions : List ℕ) (slot : ℕ) : Type 0 where
  pub place : ℕ
  pub refers : target_of table slot ≡ Some place
  pub into : Contains regions (region_of table.layout place)
  pub outside : Contains regions (region_of table.layout slot) → ⊥

-- the least such slot
abbrev pub IsFirstIntoAny : Table → List ℕ → Option ℕ → Type 0
IsFirstIntoAny table regions None = (slot : ℕ) → EntersAny table regions slot → ⊥
IsFirstIntoAny table regions (Some slot) =
    EntersAny table regions slot
    × ((other : ℕ) → EntersAny table regions other → slot ≤ other)

-- the least such slot of a card
abbrev pub IsFirstOfCard : Table → List ℕ → ℕ → Option ℕ → Type 0
IsFirstOfCard table regions card None =
    (slot : ℕ) → card_of table.layout slot ≡ card → EntersAny table regions slot → ⊥
IsFirstOfCard table regions card (Some slot) =
    (card_of table.layout slot ≡ card) × EntersAny table regions slot
    × ((other : ℕ) → card_of table.layout other ≡ card → EntersAny table regions other
    → slot ≤ other)

-- the entries are steps that lead from one table to the other
abbrev pub IsRun : Table → List Entry → Table → Type 0
IsRun old [] new = new ≡ old
IsRun old (entry ∷ entries) new = (mid : Table) × IsStep old entry mid × IsRun mid entries new

-- null is stored into each of these slots: the table, the word of a slot, and the steps
abbrev pub cut : List ℕ → Table → Table
cut slots table = fold (λ left slot. stored left slot None) table slots

abbrev pub cut_word : List ℕ → ℕ → ℕ → ℕ
cut_word slots slot word = fold (λ left changed. one_word changed 0 slot left) word slots

abbrev pub cut_entry : ℕ → ℕ → Entry
cut_entry caller slot = store_entry caller slot None (unfilled Null)

-- the pairs of these regions' cards are recorded no more
abbrev pub all_forgotten : List ℕ → Table → Table
all_forgotten regions table = fold (λ left region. forgotten region left) table regions

-- the step that empties a region's set
abbrev pub emptied_entry : ℕ → ℕ → Entry
emptied_entry caller region = clear_entry caller region Cleared

-- null is stored into some slots of which this is so, each of which refers into another region, and
-- then none of them refers into another one
pub record Cuts (old : Pause) (IsOf : ℕ → Type 0) (new : Pause) : Type 0 where
  pub race : IsSameRace old new
  pub slots : List ℕ
  pub only : All (λ slot. IsOf slot × ((place : ℕ) × Crosses (table_at old) slot place)) slots
  pub words : SlotsBecome (cut_word slots) old new
  pub table : table_at new ≡ cut slots (table_at old)
  pub steps : (caller : ℕ) → IsRun (table_at old) (map (cut_entry caller) slots) (table_at new)
  pub fewer : (slot place : ℕ) → Crosses (table_at new) slot place
      → Crosses (table_at old) slot place
  pub closed : (slot place : ℕ) → IsOf slot → Crosses (table_at new) slot place → ⊥
  pub flags : NoFlagRises old new

-- the cards of these regions are removed from all remembered sets
pub record ForgetsAll (old : Pause) (regions : List ℕ) (new : Pause) : Type 0 where
  pub race : IsSameRace old new
  pub words : SlotsBecome same_word old new
  pub table : table_at new ≡ all_forgotten regions (table_at old)
  pub flags : NoFlagRises old new

-- the remembered sets of these regions are emptied
pub record EmptiesAll (old : Pause) (regions : List ℕ) (new : Pause) : Type 0 where
  pub race : IsSameRace old new
  pub words : SlotsBecome same_word old new
  pub steps : (caller : ℕ)
      → IsRun (table_at old) (map (emptied_entry caller) regions) (table_at new)
  pub flags : NoFlagRises old new

-- the regions are free: no slot of theirs refers into another region and none of another into them,
-- no card is pending, and no pair of their cards or of them is recorded. Null was stored into the
-- slots of theirs that referred out, their cards were forgotten, and their sets were emptied
pub record Frees (old : Pause) (regions : List ℕ) (new : Pause) : Type 0 where
  pub race : IsSameRace old new
  pub slots : List ℕ
  pub only : All (λ slot. Contains regions (region_of old.layout slot)
      × ((place : ℕ) × Crosses (table_at old) slot place)) slots
  pub words : SlotsBecome (cut_word slots) old new
  pub stores : (caller : ℕ) → let table = table_at old in
      IsRun table (map (cut_entry caller) slots) (cut slots table)
  pub clears : (caller : ℕ) → let table = all_forgotten regions (cut slots (table_at old)) in
      IsRun table (map (emptied_entry caller) regions) (table_at new)
  pub closed : (slot place : ℕ) → Crosses (table_at new) slot place
      → (Contains regions (region_of old.layout slot) → ⊥)
      × (Contains regions (region_of old.layout place) → ⊥)
  pub clean : (table_at new).pending ≡ set.empty
  pub unrecorded : (card region : ℕ) → IsRecorded (table_at new) card region
      → (Contains regions (region_of_card old.layout card) → ⊥) × (Contains regions region → ⊥)
  pub flags : NoFlagRises old new

-- a call that frees the regions got the reply: nothing has changed where it was refused, since as
-- many cards are pending, or this is the least slot outside that refers into one of the regions
abbrev pub FreesAt : Pause → List ℕ → ClearReply → Pause → Type 0
FreesAt old regions Cleared new = Frees old regions new
FreesAt old regions (Pending count) new =
    (new ≡ old) × (count ≡ set.len (table_at old).pending) × (1 ≤ count)
FreesAt old regions (StillReferenced slot) new =
    (new ≡ old) × ((table_at old).pending ≡ set.empty)
    × IsFirstIntoAny (table_at old) regions (Some slot)
