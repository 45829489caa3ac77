-- What the collector's calls on a heap at a pause do, and why they are refused.
use Rattle.std.specs.Prelude.{◌≡◌, ◌⊎◌, ◌+◌, ◌∷◌, ◌<◌, ◌++◌}
use Rattle.g1_handles.specs.Prelude.{Option, Some, None, Result, Err, Pause, ℕ, List, [], fold}
use Rattle.g1_handles.specs.Prelude.{region_of, Table, Kind, StoresWordAt, Crosses, IsStep, drained}
use Rattle.g1_handles.specs.Prelude.{stored, word_of, table_at, IsSameRace, Refines, SlotsBecome}
use Rattle.g1_handles.specs.Prelude.{one_word, IsExactAtPause, IfOk, IfErr, OnErr, length, take}
use Rattle.g1_handles.specs.Prelude.{TellsMembers}
use Rattle.g1_handles.specs.declared.code.Reason.{Reason}
use Rattle.g1_handles.specs.declared.code.Reason.TheVariants as refusal
use Rattle.g1_handles.specs.declared.heap.racing_heap.RacingHeap.{RacingHeap}
use Rattle.g1_handles.specs.declared.heap.racing_heap.RacingHeap.TheVariants as heap
use Rattle.g1_handles.specs.Life.{OfAtPause, OfPaused, IsSameBut, SaysNoHeap, SaysNotPaused}
use Rattle.g1_handles.specs.declared.one_core.batch.Store.{Store}
use Rattle.g1_handles.specs.Codes.{reference_of}
use Rattle.g1_handles.specs.Replies.{AreStoresOf, IsWritten}
use Rattle.g1_handles.specs.Refusals.{IsRow, LacksRegion}
use Rattle.g1_handles.specs.declared.heap.sets.SetTold.{SetTold}
use Rattle.g1_handles.specs.declared.heap.sets.SetTold.TheVariants.{All as All-of, First}
use Rattle.g1_handles.specs.declared.heap.sets.Which.{Which}
use Rattle.g1_handles.specs.declared.heap.sets.Which.TheVariants.{Recorded, Refined}

-- a call, which leads from one pause to another with this result, was made on what a handle has,
-- or was refused where that is no heap at a pause
abbrev pub IsCalled : {A : Type 0} → (Pause → Result A Reason → Pause → Type 0)
    → Option RacingHeap → Result A Reason → Option RacingHeap → Type 0
IsCalled Q None r new = (new ≡ None) × (r ≡ Err refusal.NotOpen)
IsCalled Q (Some (heap.Racing b)) r new =
    (new ≡ Some (heap.Racing b)) × (r ≡ Err refusal.NotPaused)
IsCalled Q (Some (heap.Read b)) r new =
    (new ≡ Some (heap.Read b)) × (r ≡ Err refusal.NotPaused)
IsCalled Q (Some (heap.Paused a)) r new =
    OfAtPause new (λ b. IsSameBut a b × Q a.pause r b.pause)

-- a call on the heap of a handle, which is refused at a pause for this
abbrev pub IsHeapRefused : Option RacingHeap → (Pause → Reason → Type 0) → Reason → Type 0
IsHeapRefused handle Why r =
    SaysNoHeap handle r ⊎ SaysNotPaused handle r ⊎ OfPaused handle (λ pause. Why pause r)

-- all is refined, and these cards are every one that holds into the region, and only such or
-- recorded ones
pub record DrainsRegion (old : Pause) (region : ℕ) (new : Pause) (cards : List ℕ) : Type 0 where
  pub refines : Refines old new
  pub done : List ℕ
  pub step : (caller : ℕ) → IsStep (table_at old) (drained caller region cards done) (table_at new)
  pub exact : IsExactAtPause (table_at old) region cards

-- the table after these stores, each after the one before
abbrev pub stored_all : Table → List Store → Table
stored_all table stores =
    fold (λ t s. stored t s.slot (reference_of s.target)) table stores

-- what a slot's word is after these stores
abbrev pub word_stored : List Store → ℕ → ℕ → ℕ
word_stored stores slot word =
    fold (λ w s. one_word s.slot (word_of (reference_of s.target)) slot w) word stores

-- these stores, of slots and targets that the heap has, are made in order
pub record StoresAllAt (old : Pause) (stores : List Store) (new : Pause) : Type 0 where
  pub within : AreStoresOf old.layout stores
  pub race : IsSameRace old new
  pub words : SlotsBecome (word_stored stores) old new
  pub table : table_at new ≡ stored_all (table_at old) stores

-- these words are stored in order to the slots from slot p on
abbrev pub StoresWordsAt : Pause → ℕ → List ℕ → Pause → Type 0
StoresWordsAt old p [] new = new ≡ old
StoresWordsAt old p (word ∷ words) new =
    (mid : Pause) × (kind : Kind) × StoresWordAt old p word kind mid
    × StoresWordsAt mid (p + 1) words new

-- the heap has the row, and its words are stored
pub record StoresRowAt (old : Pause) (p : ℕ) (words : List ℕ) (new : Pause) : Type 0 where
  pub row : IsRow old.layout p words
  pub stored : StoresWordsAt old p words new

-- some slot of the region refers out of it
pub record RefersOut (heap : Pause) (region : ℕ) : Type 0 where
  pub slot : ℕ
  pub place : ℕ
  pub crosses : Crosses (table_at heap) slot place
  pub inside : region_of heap.layout slot ≡ region

-- this many cards are so, more than the array has room for, and it has the first of them
pub record HasFirst (AreSo : List ℕ → Type 0) (array : List ℕ) (count : ℕ) : Type 0 where
  pub rest : List ℕ
  pub so : AreSo (array ++ rest)
  pub counted : count ≡ length array + length rest
  pub more : length array < count

-- the cards that are so are written to the front of the array, or the first of them fill it
abbrev pub TellsSet : (List ℕ → Type 0) → List ℕ → SetTold → List ℕ → Type 0
TellsSet AreSo old (All-of count) new = AreSo (take count new) × IsWritten old count new
TellsSet AreSo old (First count) new = HasFirst AreSo new count × (length new ≡ length old)

-- these cards are the set
abbrev pub IsSet : Which → Pause → ℕ → Pause → List ℕ → Type 0
IsSet Recorded old region new cards = TellsMembers (table_at old) region cards
IsSet Refined old region new cards = DrainsRegion old region new cards

-- a call for the set of a region, with what the array had before and has after it
pub record IsSetCall (which : Which) (region : ℕ) (before after : List ℕ) (old : Pause)
    (r : Result SetTold Reason) (new : Pause) : Type 0 where
  pub told : IfOk r (λ told. TellsSet (IsSet which old region new) before told after)
  pub why : IfErr r (LacksRegion old.layout region)
  pub refused : OnErr r (new ≡ old)
  pub same : which ≡ Recorded → new ≡ old
