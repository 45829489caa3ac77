-- What a racer's store of a word does: a reference, null, or data, which refers to nothing.
use Rattle.std.specs.Prelude.{◌≡◌, ◌≢◌, ◌<◌, ◌++◌, ◌∷◌, if◌then◌else◌}
use Rattle.g1_race.specs.Prelude.{ℕ, [], false, true, Kind, SameRegion, Null, AlreadyDirty, Logged}
use Rattle.g1_race.specs.Prelude.{array_vec_len}
use Rattle.g1_race.specs.Prelude.{RaceShape, View, IsReference, IsWord, slot_card, crosses, IsFound}
use Rattle.g1_race.specs.declared.race.Racer.{Racer}
use Rattle.g1_race.specs.Race.{stored_view}
use Rattle.g1_race.specs.Parties.{is_logged, racer_log, racer_view}

-- the kind of a store of this word to the slot: data is stored as null is
abbrev pub IsWordKind : RaceShape → ℕ → ℕ → Kind → Type 0
IsWordKind heap slot word Null = IsReference word → ⊥
IsWordKind heap slot word SameRegion = IsReference word × (crosses heap slot word ≡ false)
IsWordKind heap slot word AlreadyDirty = crosses heap slot word ≡ true
IsWordKind heap slot word Logged = crosses heap slot word ≡ true

-- the racer has stored the word to the slot and overwrote the old one, which the slot had at some
-- moment of the race, with the racer's view as it was before; and this was the kind of the store
pub record HasStoredWord (heap : RaceShape) (slot word old : ℕ) (kind : Kind) (before after : Racer)
    : Type 0 where
  pub agrees : IsWordKind heap slot word kind
  pub found : IsFound (racer_view before) slot old
  pub view : racer_view after
      ≡ stored_view heap (racer_view before) slot word old (is_logged kind)
  pub log : racer_log after ≡ (if is_logged kind then racer_log before ++ slot_card heap slot ∷ []
      else racer_log before)

-- if the word refers from the slot into another region, the racer's log has room for one card more
abbrev pub HasRoomToStore : RaceShape → ℕ → ℕ → Racer → Type 0
HasRoomToStore heap slot word racer =
    crosses heap slot word ≡ true → array_vec_len racer.log < 256

-- at some moment of the race, with the racer's view so, the slot had this word, which is not the
-- one that was expected
pub record HasOtherWord (heap : RaceShape) (view : View) (slot expected word : ℕ) : Type 0 where
  pub found : IsFound view slot word
  pub fits : IsWord heap word
  pub other : word ≢ expected
