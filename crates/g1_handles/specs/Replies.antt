-- What the words that C gets stand for.
use Rattle.std.specs.Prelude.{◌≡◌, ◌+◌, ◌<◌, ◌≤◌, ◌==◌, if◌then◌else◌, ◌∷◌, ◌++◌}
use Rattle.g1_handles.specs.Prelude.{All, card_count, drop, ℕ, Option, Some, None, List, length}
use Rattle.g1_handles.specs.Prelude.{not, ⊤, Machine, IsLater, IsOnlyRead, IsStep, clear_entry}
use Rattle.g1_handles.specs.Prelude.{drain_entry, target_entry, redirect_entry, refine_entry}
use Rattle.g1_handles.specs.Prelude.{store_entry, unfilled, ClearReply, Drained, Kind, DoesClear}
use Rattle.g1_handles.specs.Prelude.{DoesDrain, DoesRedirect, DoesRefine, DoesStore, DoesTarget, []}
use Rattle.g1_handles.specs.Prelude.{slice_index_or, fold, card_of, kind_of, logged_card}
use Rattle.g1_handles.specs.Prelude.{stored_machine}
use Rattle.g1_core.specs.declared.entry.Entry.{Entry}
use Rattle.g1_core.specs.declared.reply.RefineReply.{RefineReply}
use Rattle.g1_core.specs.declared.reply.Redirected.{Redirected}
use Rattle.g1_layout.specs.Shape as layout
use Rattle.g1_handles.specs.declared.one_core.batch.Store.{Store}
use Rattle.g1_handles.specs.Codes.{reference_of, IsStoreOf}

-- What a call of a core did, and that it is the step of its entry, whoever the caller is.
pub record MakesStep (entry : ℕ → Entry) (does : Machine → Machine → Type 0)
    (old new : Machine) : Type 0 where
  pub did : does old new
  pub step : (caller : ℕ) → IsStep old.state.table (entry caller) new.state.table
  pub later : IsLater old new

-- A store of the target into the slot was of this kind.
abbrev pub StoresTo : Machine → ℕ → Option ℕ → Kind → Machine → Type 0
StoresTo old slot target kind new =
    MakesStep (λ caller. store_entry caller slot target (unfilled kind))
    (DoesStore slot target (unfilled kind)) old new

-- The slot refers to the target.
abbrev pub RefersTo : Machine → ℕ → Option ℕ → Machine → Type 0
RefersTo old slot target new =
    MakesStep (λ caller. target_entry caller slot target) (DoesTarget slot target) old new

-- A refinement of these cards, which the heap has, got the reply.
pub record RefinesTo (old : Machine) (cards : List ℕ) (reply : RefineReply)
    (new : Machine) : Type 0 where
  pub within : All (λ card. card < card_count old.state.table.layout) cards
  pub made : MakesStep (λ caller. refine_entry caller reply)
      (DoesRefine (Some cards) reply) old new

-- the reply of a refinement that C is told by a word (0 where it is not short), the refined cards
-- and two counts
abbrev pub reply_of : ℕ → List ℕ → ℕ → ℕ → RefineReply
reply_of word refined hot skipped =
    record {
      taken = if word == 0 then 1 else 0;
      refined = refined;
      hot = hot;
      skipped = skipped;
      left = 0;
      short = not (word == 0);
    }

-- A drain of the region answered this.
abbrev pub DrainsTo : Machine → ℕ → Drained → Machine → Type 0
DrainsTo old region answer new =
    MakesStep (λ caller. drain_entry caller region answer) (DoesDrain region answer) old new

-- The cards fit into an array of this length, and C can be told how many they are.
abbrev pub FitIn : ℕ → List ℕ → Type 0
FitIn room cards = (length cards ≤ room) × (length cards ≤ 16777216)

-- at most this many elements were written, those at the front; the array has as many
abbrev pub IsWritten : List ℕ → ℕ → List ℕ → Type 0
IsWritten old count new = (count ≤ length old) × (drop count new ≡ drop count old)

-- A clear of the region got the reply.
abbrev pub ClearsTo : Machine → ℕ → ClearReply → Machine → Type 0
ClearsTo old region reply new =
    MakesStep (λ caller. clear_entry caller region reply) (DoesClear region reply) old new

-- A redirect from one region to another answered this.
pub record RedirectsTo (old : Machine) (from to : ℕ) (answer : Redirected)
    (new : Machine) : Type 0 where
  pub made : MakesStep (λ caller. redirect_entry caller from to answer)
      (DoesRedirect from to answer) old new

-- Nothing but the count of reads has changed.
abbrev pub AreOnlyRead : Option Machine → Option Machine → Type 0
AreOnlyRead None None = ⊤
AreOnlyRead None (Some new) = ⊥
AreOnlyRead (Some old) None = ⊥
AreOnlyRead (Some old) (Some new) = IsOnlyRead old new

-- the machine after some stores, and the cards that they logged, in order
pub record AfterStores : Type 0 where
  pub machine : Machine
  pub cards : List ℕ

abbrev pub cards_of : List ℕ → Option ℕ → List ℕ
cards_of cards None = cards
cards_of cards (Some card) = cards ++ card ∷ []

-- one store more
abbrev pub made : AfterStores → Store → AfterStores
made m store = record {
  machine = stored_machine m.machine store.slot (reference_of store.target);
  cards = cards_of m.cards (logged_card
      (kind_of m.machine.state.table store.slot (reference_of store.target))
      (card_of m.machine.state.table.layout store.slot));
}

-- these stores, each after the one before
abbrev pub made_all : Machine → List Store → AfterStores
made_all m stores = fold made (record { machine = m; cards = [] }) stores

-- The heap has each slot and each target of these stores.
abbrev pub AreStoresOf : layout.Shape → List Store → Type 0
AreStoresOf l stores = All (λ s. IsStoreOf l s.slot s.target) stores

-- The store at this index names a slot or a target that the heap does not have.
abbrev pub IsFaultAt : layout.Shape → List Store → ℕ → Type 0
IsFaultAt l stores i =
    (i < length stores) × ((d : Store)
    → IsStoreOf l (slice_index_or stores i d).slot (slice_index_or stores i d).target → ⊥)

-- a copy of as many slots, whose two ranges are within this many
pub record CopiesWithin (slots from to count : ℕ) (Copied : Type 0) : Type 0 where
  pub source : from + count ≤ slots
  pub target : to + count ≤ slots
  pub copied : Copied
