-- What the stores of a racer do, of a target or of words, and why they are refused.
use Rattle.std.specs.Prelude.{◌≡◌, ◌<◌, ◌≤◌, ◌∷◌, ◌++◌, if◌then◌else◌, ◌⊎◌, ◌+◌}
use Rattle.g1_handles.specs.Prelude.{ℕ, List, [], Bool, true, slice_index_or, crosses, Race, Racer}
use Rattle.g1_handles.specs.Prelude.{length, take, Option, array_vec_len, Kind, IsFound, slot_card}
use Rattle.g1_handles.specs.Prelude.{HasOverwritten, HasStored, HasDiffered, HasNotStored, IsKind}
use Rattle.g1_handles.specs.Prelude.{is_logged, race_layout, race_shape, racer_view, word_of}
use Rattle.g1_handles.specs.Prelude.{Result, Ok, Err, slot_count, IsWord}
use Rattle.g1_handles.specs.declared.one_core.batch.Store.{Store}
use Rattle.g1_handles.specs.Racing.{with_store, Racing, Stores}
use Rattle.g1_handles.specs.Refusals.{CanStore, SaysFullLog, LacksSlot, IsRow}
use Rattle.g1_handles.specs.declared.party.batch.BatchEnd.{BatchEnd}
use Rattle.g1_handles.specs.declared.party.batch.BatchEnd.TheVariants.{Whole, Stopped, Full}
use Rattle.g1_handles.specs.declared.party.batch.RaceBatch.{RaceBatch}
use Rattle.g1_handles.specs.declared.party.exchange.Exchange.{Exchange}
use Rattle.g1_handles.specs.declared.party.exchange.Exchange.TheVariants as exchange
use Rattle.g1_handles.specs.Replies.{IsFaultAt}
use Rattle.g1_handles.specs.Codes.{reference_of}
use Rattle.g1_race.specs.Exchanging.{HasStoredWord, HasOtherWord, HasRoomToStore}
use Rattle.g1_handles.specs.declared.code.Reason.{Reason}
use Rattle.g1_handles.specs.declared.code.Reason.TheVariants as refusal

-- a racer before and after a store of the place t to slot p, whose overwritten word referred to the
-- old one
pub record Swaps (a : Racing) (p : ℕ) (t old : Option ℕ) (k : Kind) (b : Racing) : Type 0 where
  pub race : b.race ≡ a.race
  pub kind : IsKind (race_shape a.race) p t k
  pub view : HasOverwritten (race_shape a.race) p (word_of t) old (is_logged k)
      (racer_view a.racer) (racer_view b.racer)
  pub log : b.racer.log.items ≡ (if is_logged k
      then a.racer.log.items ++ slot_card (race_shape a.race) p ∷ []
      else a.racer.log.items)
  pub counts : b.counts ≡ with_store a.counts k

-- a racer before and after such a store, which overwrote what was expected
pub record Exchanges (a : Racing) (p : ℕ) (expected t : Option ℕ) (k : Kind) (b : Racing)
    : Type 0 where
  pub race : b.race ≡ a.race
  pub stored : HasStored (race_shape a.race) p t (word_of expected) k a.racer b.racer
  pub had : IsFound (racer_view a.racer) p (word_of expected)
  pub counts : b.counts ≡ with_store a.counts k

-- a racer before and after it stored nothing to slot p, which had something else than was expected
-- and referred to what was found
pub record FindsOther (a : Racing) (p : ℕ) (expected found : Option ℕ) (b : Racing) : Type 0 where
  pub race : b.race ≡ a.race
  pub same : HasNotStored a.racer b.racer
  pub differed : HasDiffered (racer_view a.racer) p expected found
  pub counts : b.counts ≡ a.counts

-- what a compare-and-swap came to
abbrev pub IsExchange : Racing → ℕ → Option ℕ → Option ℕ → Exchange → Racing → Type 0
IsExchange a p expected t (exchange.Stored k) b = Exchanges a p expected t k b
IsExchange a p expected t (exchange.Differs word) b = FindsOther a p expected (reference_of word) b

-- a racer before and after these stores, each after the one before, which it could make then
abbrev pub StoresAll : Racing → List Store → Racing → Type 0
StoresAll a [] b = b ≡ a
StoresAll a (s ∷ stores) b =
    (c : Racing) × (k : Kind) × CanStore a.race a.racer s.slot s.target
    × Stores a s.slot (reference_of s.target) k c × StoresAll c stores b

-- the store to this slot crosses regions
abbrev pub is_across : Race → Store → Bool
is_across race s = crosses (race_shape race) s.slot (word_of (reference_of s.target))

-- the store at this index crosses regions, and the racer's log is full
pub record IsFullAt (race : Race) (stores : List Store) (count : ℕ) (racer : Racer) : Type 0 where
  pub more : count < length stores
  pub across : (d : Store) → is_across race (slice_index_or stores count d) ≡ true
  pub full : 256 ≤ array_vec_len racer.log

-- why a racer made as many of these stores, before and after them
abbrev pub IsEnd : BatchEnd → Racing → List Store → ℕ → Racing → Type 0
IsEnd Whole a stores count b = count ≡ length stores
IsEnd Stopped a stores count b = IsFaultAt (race_layout a.race) stores count
IsEnd Full a stores count b = IsFullAt a.race stores count b.racer

-- a racer before and after the first of these stores, up to one that it cannot make
pub record StoresFirst (a : Racing) (stores : List Store) (answer : RaceBatch) (b : Racing)
    : Type 0 where
  pub stored : StoresAll a (take answer.count stores) b
  pub end : IsEnd answer.end a stores answer.count b

-- a slot of the heap may have the word: null, a reference or data
abbrev pub MayHave : Race → ℕ → Type 0
MayHave race word = IsWord (race_shape race) word

-- a racer before and after a store of the word to slot p, which overwrote the old one
pub record SwapsWord (a : Racing) (p word old : ℕ) (k : Kind) (b : Racing) : Type 0 where
  pub race : b.race ≡ a.race
  pub stored : HasStoredWord (race_shape a.race) p word old k a.racer b.racer
  pub fits : MayHave a.race old
  pub counts : b.counts ≡ with_store a.counts k

-- a racer before and after it stored nothing to slot p, which had another word than was expected
pub record FindsOtherWord (a : Racing) (p expected found : ℕ) (b : Racing) : Type 0 where
  pub race : b.race ≡ a.race
  pub same : HasNotStored a.racer b.racer
  pub differed : HasOtherWord (race_shape a.race) (racer_view a.racer) p expected found
  pub counts : b.counts ≡ a.counts

-- what a compare-and-swap of words came to
abbrev pub IsWordExchange : Racing → ℕ → ℕ → ℕ → Result Kind ℕ → Racing → Type 0
IsWordExchange a p expected word (Ok k) b = SwapsWord a p word expected k b
IsWordExchange a p expected word (Err found) b = FindsOtherWord a p expected found b

-- no slot of the heap may have the word
abbrev pub SaysBadWord : Race → ℕ → Reason → Type 0
SaysBadWord race word r = (r ≡ refusal.BadWord) × (MayHave race word → ⊥)

-- the heap has the slot, which may have the word
abbrev pub IsWordFor : Race → ℕ → ℕ → Type 0
IsWordFor race slot word = (slot < slot_count (race_layout race)) × MayHave race word

-- the heap lacks the slot, or no slot may have the word
abbrev pub LacksWordPlace : Race → ℕ → ℕ → Reason → Type 0
LacksWordPlace race slot word r = LacksSlot (race_layout race) slot r ⊎ SaysBadWord race word r

-- the racer can store the word to the slot
pub record CanStoreWord (race : Race) (racer : Racer) (slot word : ℕ) : Type 0 where
  pub fits : IsWordFor race slot word
  pub room : HasRoomToStore (race_shape race) slot word racer

-- one of the two is so, or neither and the racer's log is full
abbrev pub SaysNoWordStore : Race → Racer → ℕ → ℕ → Reason → Type 0
SaysNoWordStore race racer slot word r = LacksWordPlace race slot word r
    ⊎ (IsWordFor race slot word × SaysFullLog race racer slot word r)

-- a racer before and after it stored these words to the slots from slot p on, each after the one
-- before, which it could store then
abbrev pub StoresWords : Racing → ℕ → List ℕ → Racing → Type 0
StoresWords a p [] b = b ≡ a
StoresWords a p (word ∷ words) b =
    (c : Racing) × (old : ℕ) × (k : Kind) × CanStoreWord a.race a.racer p word
    × SwapsWord a p word old k c × StoresWords c (p + 1) words b

-- the word at this index of a row refers from its slot into another region, and the racer's log is
-- full
pub record IsRowFullAt (race : Race) (p : ℕ) (words : List ℕ) (count : ℕ) (racer : Racer)
    : Type 0 where
  pub more : count < length words
  pub across : (d : ℕ) → crosses (race_shape race) (p + count) (slice_index_or words count d) ≡ true
  pub full : 256 ≤ array_vec_len racer.log

-- a racer before and after it stored as many words of a row: all of them, or those before one for
-- which its log has no room
pub record StoresRow (a : Racing) (p : ℕ) (words : List ℕ) (count : ℕ) (b : Racing)
    : Type 0 where
  pub row : IsRow (race_layout a.race) p words
  pub stored : StoresWords a p (take count words) b
  pub end : (count ≡ length words) ⊎ IsRowFullAt a.race p words count b.racer
