-- What the collector's calls at a pause do, each from one pause to the next.
use Rattle.std.specs.Prelude.{◌≡◌, ◌≢◌, ◌<◌, ◌≤◌, ◌^◌, ◌+◌}
use Rattle.g1_race.specs.Prelude.{RaceShape, ℕ, Option, None, Kind, Null, length, region_of}
use Rattle.g1_race.specs.Prelude.{card_count}
use Rattle.g1_race.specs.Prelude.{target_of, IsStep, kind_of, stored, copied, IsStrictlyIncreasing}
use Rattle.g1_race.specs.Prelude.{store_entry, unfilled, clear_entry, redirect_entry, drain_entry}
use Rattle.g1_race.specs.Prelude.{drain_cards, drain_refined, Moved, Cleared, Logged, slot_card}
use Rattle.g1_core.specs.declared.reply.ClearReply.{ClearReply}
use Rattle.g1_core.specs.declared.reply.Drained.{Drained}
use Rattle.g1_race.specs.Race.{word_of}
use Rattle.g1_race.specs.Over.{Pause, table_at, target_of_word}
use Rattle.g1_race.specs.Telling.{marked_cards}
use Rattle.g1_race.specs.Evacuating.{IsSameRace, IsRefinedRace, SlotsBecome, same_word, one_word}
use Rattle.g1_race.specs.Evacuating.{wiped_word, copied_word, AreAllRefined, wiped}
use Rattle.g1_race.specs.Evacuating.{forgotten, IsWhole, IsExactAtPause, FlagsRise, NoFlagRises}
use Rattle.g1_race.specs.Moving.{word_after}

-- the target is stored into the slot, by a store of this kind
pub record StoresAt (old : Pause) (slot : ℕ) (target : Option ℕ) (kind : Kind) (new : Pause)
    : Type 0 where
  pub race : IsSameRace old new
  pub words : SlotsBecome (one_word slot (word_of target)) old new
  pub kind_is : kind ≡ kind_of (table_at old) slot target
  pub table : table_at new ≡ stored (table_at old) slot target
  pub step : (caller : ℕ)
      → IsStep (table_at old) (store_entry caller slot target (unfilled kind)) (table_at new)
  pub flags : FlagsRise (λ card. (kind ≡ Logged) × (card ≡ slot_card old.shape slot)) old new

-- data is stored into the slot, which is a store of null to the table
pub record StoresDataAt (old : Pause) (slot word : ℕ) (new : Pause) : Type 0 where
  pub high : 2 ^ 32 ≤ word
  pub race : IsSameRace old new
  pub words : SlotsBecome (one_word slot word) old new
  pub table : table_at new ≡ stored (table_at old) slot None
  pub step : (caller : ℕ)
      → IsStep (table_at old) (store_entry caller slot None (unfilled Null)) (table_at new)
  pub flags : NoFlagRises old new

-- the word is stored into the slot, by a store of this kind of what it refers to
pub record StoresWordAt (old : Pause) (slot word : ℕ) (kind : Kind) (new : Pause) : Type 0 where
  pub race : IsSameRace old new
  pub words : SlotsBecome (one_word slot word) old new
  pub kind_is : kind ≡ kind_of (table_at old) slot (target_of_word word)
  pub table : table_at new ≡ stored (table_at old) slot (target_of_word word)
  pub step : (caller : ℕ) → IsStep (table_at old)
      (store_entry caller slot (target_of_word word) (unfilled kind)) (table_at new)
  pub flags : FlagsRise (λ card. (kind ≡ Logged) × (card ≡ slot_card old.shape slot)) old new

-- the card is that of one of `count` slots at or after `first`
abbrev pub IsCardAmong : RaceShape → ℕ → ℕ → ℕ → Type 0
IsCardAmong heap first count card =
    (slot : ℕ) × (first ≤ slot) × (slot < first + count) × (card ≡ slot_card heap slot)

-- the words of `count` slots at or after `from` are copied to as many slots at or after `to`
pub record Copies (old : Pause) (from to count : ℕ) (new : Pause) : Type 0 where
  pub race : IsSameRace old new
  pub words : SlotsBecome (copied_word old.words from to count) old new
  pub table : table_at new ≡ copied from to count (table_at old)
  pub flags : FlagsRise (IsCardAmong old.shape to count) old new

-- all is refined
pub record Refines (old new : Pause) : Type 0 where
  pub race : IsRefinedRace old new
  pub words : SlotsBecome same_word old new
  pub refined : AreAllRefined (table_at old) (marked_cards old.shape old.words) (table_at new)

-- all is refined, and a drain of the region got the answer
pub record DrainsAt (old : Pause) (region : ℕ) (answer : Drained) (new : Pause) : Type 0 where
  pub refines : Refines old new
  pub whole : IsWhole answer
  pub few : length (drain_cards answer) ≤ card_count old.layout
  pub ascending : IsStrictlyIncreasing (drain_refined answer)
  pub step : (caller : ℕ) → IsStep (table_at old) (drain_entry caller region answer) (table_at new)
  pub exact : IsExactAtPause (table_at old) region (drain_cards answer)

-- a clear of the region got the reply
pub record ClearsAt (old : Pause) (region : ℕ) (reply : ClearReply) (new : Pause) : Type 0 where
  pub race : IsSameRace old new
  pub words : SlotsBecome same_word old new
  pub step : (caller : ℕ) → IsStep (table_at old) (clear_entry caller region reply) (table_at new)
  pub refused : reply ≢ Cleared → new ≡ old
  pub flags : NoFlagRises old new

-- references into the one region are moved to the other, and as many slots have changed
pub record Redirects (old : Pause) (from to slots : ℕ) (new : Pause) : Type 0 where
  pub race : IsRefinedRace old new
  pub words : SlotsBecome (word_after old.shape from to) old new
  pub step : (caller : ℕ) → let refined = marked_cards old.shape old.words in
      IsStep (table_at old) (redirect_entry caller from to (Moved slots refined)) (table_at new)

-- null is stored to each slot of the region
pub record Wipes (old : Pause) (region : ℕ) (new : Pause) : Type 0 where
  pub within : region < old.layout.regions
  pub race : IsSameRace old new
  pub words : SlotsBecome (wiped_word old.shape region) old new
  pub table : table_at new ≡ wiped region (table_at old)
  pub null : (slot : ℕ) → region_of old.layout slot ≡ region
      → target_of (table_at new) slot ≡ None
  pub flags : NoFlagRises old new

-- the region's cards are removed from all remembered sets
pub record Forgets (old : Pause) (region : ℕ) (new : Pause) : Type 0 where
  pub within : region < old.layout.regions
  pub race : IsSameRace old new
  pub words : SlotsBecome same_word old new
  pub table : table_at new ≡ forgotten region (table_at old)
  pub flags : NoFlagRises old new
