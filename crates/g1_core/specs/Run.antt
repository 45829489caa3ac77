-- The step of the plain table that each entry of a history is, and permitted runs.
use Rattle.std.specs.Prelude.{◌≡◌, ◌≢◌, ◌∷◌, if◌then◌else◌, ◌==◌, ◌<◌, ◌≤◌}
use Rattle.g1_core.specs.Prelude.{ℕ, List, [], Option}
use Rattle.g1_core.specs.Prelude.{Some, None, length, take, drop, All, Contains, fold}
use Rattle.g1_core.specs.Prelude.{slice_set, IfSome, IsStrictlyIncreasing, Kind, SameRegion, Null}
use Rattle.g1_core.specs.Prelude.{AlreadyDirty, Logged, Shape, slot_count, card_count, card_of}
use Rattle.g1_core.specs.Prelude.{region_of, region_of_card, CardSet, without}
use Rattle.std.specs.FinSet as set
use Rattle.g1_core.specs.declared.entry.Call.{Call}
use Rattle.g1_core.specs.declared.entry.Call.TheVariants.{Store, Refine, Target, Pending, Members}
use Rattle.g1_core.specs.declared.entry.Call.TheVariants.{Status, Drain, Clear, Redirect}
use Rattle.g1_core.specs.declared.entry.Reply.{Reply}
use Rattle.g1_core.specs.declared.entry.Reply.TheVariants as reply
use Rattle.g1_core.specs.declared.entry.Entry.{Entry}
use Rattle.g1_core.specs.declared.reply.ClearReply.TheVariants as clear_reply
use Rattle.g1_core.specs.Table.{Table, opening, target_of, Holds, Enters, AreMembers, AreRefinable}
use Rattle.g1_core.specs.Table.{refined, moved, moved_count}

-- a whole drain of the region, which answered these cards
abbrev pub drained : ℕ → ℕ → List ℕ → List ℕ → Entry
drained caller region cards refined =
    record { caller = caller; call = Drain region; reply = reply.Cards cards; refined = refined }

-- the kind of a store
abbrev pub kind_of : Table → ℕ → Option ℕ → Kind
kind_of t slot None = Null
kind_of t slot (Some place) =
    if region_of t.layout slot == region_of t.layout place then SameRegion
    else if set.contains t.pending (card_of t.layout slot) then AlreadyDirty
    else Logged

abbrev pub pending_after : Kind → CardSet → ℕ → CardSet
pending_after Logged pending card = set.insert pending card
pending_after SameRegion pending card = pending
pending_after Null pending card = pending
pending_after AlreadyDirty pending card = pending

-- The slot gets the target, and where the store is logged its card becomes pending.
abbrev pub stored : Table → ℕ → Option ℕ → Table
stored t slot target = record {
  layout = t.layout;
  refs = slice_set t.refs slot target;
  pending = pending_after (kind_of t slot target) t.pending (card_of t.layout slot);
  recorded = t.recorded;
}

-- What a call does before it refines: a store writes.
abbrev pub written : Call → Table → Table
written (Store slot target) t = stored t slot target
written _ t = t

-- What a call does after it refined: a granted clear forgets the pairs at the region, and a
-- redirect moves references.
abbrev pub settled : Call → Reply → Table → Table
settled (Clear region) (reply.Clear clear_reply.Cleared) t =
    record {
      layout = t.layout;
      refs = t.refs;
      pending = t.pending;
      recorded = without t.recorded region;
    }
settled (Redirect from to) (reply.Moved _) t = moved from to t
settled _ _ t = t

abbrev pub table_after : Table → Entry → Table
table_after t e = settled e.call e.reply (refined e.refined (written e.call t))

-- the least slot outside the region that refers into it
pub record IsFirstInto (t : Table) (region slot : ℕ) : Type 0 where
  pub enters : Enters t slot region
  pub least : (other : ℕ) → Enters t other region → slot ≤ other

-- Whether the reply answers the call: from the table before, with these cards refined, and to the
-- table after.
abbrev pub Answers : Table → Call → Reply → List ℕ → Table → Type 0
-- only a logged store may refine
Answers t (Store slot target) (reply.Stored kind _ _) cards after =
    (kind ≡ kind_of t slot target) × (kind ≢ Logged → cards ≡ [])
Answers t Refine (reply.Refined _ _ _ _ _) cards after = Unit {0}
Answers t (Target slot) (reply.Target target) cards after =
    (cards ≡ []) × (target ≡ target_of t slot)
Answers t (Pending card) (reply.Pending answer) cards after =
    (cards ≡ []) × (answer ≡ set.contains t.pending card)
Answers t (Members region) (reply.Cards members) cards after =
    (cards ≡ []) × AreMembers t region members
Answers t Status (reply.Status status) cards after =
    (cards ≡ []) × (status.pending ≡ set.len t.pending) × (status.recorded ≡ set.len t.recorded)
-- a whole drain leaves nothing pending and answers the members of the region; a short one only
-- refines
Answers t (Drain region) (reply.Cards members) cards after =
    (after.pending ≡ set.empty) × AreMembers after region members
Answers t (Drain region) reply.Short cards after = Unit {0}
-- a clear is refused while a card is pending or a slot outside still refers into the region
Answers t (Clear region) (reply.Clear (clear_reply.Pending n)) cards after =
    (cards ≡ []) × (n ≡ set.len t.pending) × (1 ≤ n)
Answers t (Clear region) (reply.Clear (clear_reply.StillReferenced slot)) cards after =
    (cards ≡ []) × (t.pending ≡ set.empty) × IsFirstInto t region slot
Answers t (Clear region) (reply.Clear clear_reply.Cleared) cards after =
    (cards ≡ []) × (t.pending ≡ set.empty) × ((slot : ℕ) → Enters t slot region → ⊥)
-- a redirect refines all that is pending and answers how many slots it changed, or only refines
Answers t (Redirect from to) (reply.Moved slots) cards after =
    (after.pending ≡ set.empty) × (slots ≡ moved_count from t)
Answers t (Redirect from to) reply.Short cards after = Unit {0}
-- no call has another kind of reply
Answers t _ _ cards after = ⊥

-- The numbers of a call are of the layout, and a redirect goes from one region to another.
abbrev pub IsCallOf : Shape → Call → Type 0
IsCallOf l (Store slot target) =
    (slot < slot_count l) × IfSome target (λ place. place < slot_count l)
IsCallOf l Refine = Unit {0}
IsCallOf l (Target slot) = slot < slot_count l
IsCallOf l (Pending card) = card < card_count l
IsCallOf l (Members region) = region < l.regions
IsCallOf l Status = Unit {0}
IsCallOf l (Drain region) = region < l.regions
IsCallOf l (Clear region) = region < l.regions
IsCallOf l (Redirect from to) = (from < l.regions) × (to < l.regions) × (from ≢ to)

-- The entry is a step that the table permits.
pub record IsAllowed (t : Table) (e : Entry) : Type 0 where
  pub numbers : IsCallOf t.layout e.call
  pub refines : AreRefinable (written e.call t) e.refined
  pub answers : Answers t e.call e.reply e.refined (table_after t e)

-- From one table, the entry leads to the other.
pub record IsStep (old : Table) (e : Entry) (new : Table) : Type 0 where
  pub allowed : IsAllowed old e
  pub after : new ≡ table_after old e

-- The table that a history leaves.
abbrev pub table_of_history : Shape → List Entry → Table
table_of_history layout entries = fold table_after (opening layout) entries

-- A permitted run: each step is allowed.
abbrev pub IsPermitted : Table → List Entry → Type 0
IsPermitted t [] = Unit {0}
IsPermitted t (e ∷ entries) = IsAllowed t e × IsPermitted (table_after t e) entries

-- The call, with this reply, clears the set of the region: a granted clear, or a redirect that
-- moved.
abbrev pub ClearsBy : Call → Reply → ℕ → Type 0
ClearsBy (Clear of) (reply.Clear clear_reply.Cleared) region = of ≡ region
ClearsBy (Redirect from _) (reply.Moved _) region = from ≡ region
ClearsBy _ _ region = ⊥

abbrev pub Clears : ℕ → Entry → Type 0
Clears region e = ClearsBy e.call e.reply region

-- At some moment since the set of the region was last cleared, the card held into the region.
pub record HeldSince (layout : Shape) (entries : List Entry) (card region : ℕ) : Type 0 where
  pub moment : ℕ
  pub within : moment ≤ length entries
  pub since : All (λ e. Clears region e → ⊥) (drop moment entries)
  pub held : Holds (table_of_history layout (take moment entries)) card region

-- What a drain of the region answers after these entries: ascending, every card that holds into it
-- now, and only cards that held into it since its set was last cleared.
pub record IsExact (layout : Shape) (entries : List Entry) (region : ℕ)
    (cards : List ℕ) : Type 0 where
  pub ascending : IsStrictlyIncreasing cards
  pub outside : (card : ℕ) → Contains cards card → region_of_card layout card ≢ region
  pub every : (card : ℕ) → Holds (table_of_history layout entries) card region → Contains cards card
  pub only : (card : ℕ) → Contains cards card → HeldSince layout entries card region
