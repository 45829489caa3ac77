-- What each call of a core enters in a history, from what it returns, and what it does, from one
-- machine to the next.
use Rattle.std.specs.Prelude.{◌≡◌, ◌≢◌, ◌≤◌, ◌<◌, ◌+◌, ◌*◌}
use Rattle.g1_core.specs.Prelude.{ℕ, Bool, List, [], Option}
use Rattle.g1_core.specs.Prelude.{false, length, All, IfSome, IsNone, Shape, slot_count}
use Rattle.g1_core.specs.Prelude.{card_count, Cards, reads_after}
use Rattle.std.specs.FinSet as set
use Rattle.g1_core.specs.declared.reply.StoreReply.{StoreReply}
use Rattle.g1_core.specs.declared.reply.RefineReply.{RefineReply}
use Rattle.g1_core.specs.declared.reply.Status.{Status}
use Rattle.g1_core.specs.declared.reply.Drained.{Drained}
use Rattle.g1_core.specs.declared.reply.Drained.TheVariants as drained
use Rattle.g1_core.specs.declared.reply.ClearReply.{ClearReply}
use Rattle.g1_core.specs.declared.reply.Redirected.{Redirected}
use Rattle.g1_core.specs.declared.reply.Redirected.TheVariants as redirected
use Rattle.g1_core.specs.declared.entry.Call.TheVariants as call
use Rattle.g1_core.specs.declared.entry.Reply.{Reply}
use Rattle.g1_core.specs.declared.entry.Reply.TheVariants as reply
use Rattle.g1_core.specs.declared.entry.Entry.{Entry}
use Rattle.g1_core.specs.declared.reply.ClearReply.TheVariants.{Cleared}
use Rattle.g1_core.specs.declared.entry.Call.{Call}
use Rattle.g1_core.specs.Barrier.{logged, buffer_of, fill_of, stored_machine}
use Rattle.g1_core.specs.Clearing.{member_count}
use Rattle.g1_core.specs.Machine.{Machine, IsOnlyRead}
use Rattle.g1_core.specs.Pause.{IsDrainOf}
use Rattle.g1_core.specs.Copying.{copied}
use Rattle.g1_core.specs.Redirect.{DoesRedirect}
use Rattle.g1_core.specs.Refinement.{IsRefined, AreCardsRead}
use Rattle.g1_core.specs.Run.{IsStep, kind_of}
use Rattle.g1_core.specs.Table.{Table, target_of, AreMembers}

abbrev pub store_entry : ℕ → ℕ → Option ℕ → StoreReply → Entry
store_entry caller slot target answer =
    record {
      caller = caller;
      call = call.Store slot target;
      reply = reply.Stored answer.kind answer.fill answer.short;
      refined = answer.refined;
    }

abbrev pub refine_entry : ℕ → RefineReply → Entry
refine_entry caller answer =
    record {
      caller = caller;
      call = call.Refine;
      reply = reply.Refined answer.taken answer.hot answer.skipped answer.left answer.short;
      refined = answer.refined;
    }

abbrev pub target_entry : ℕ → ℕ → Option ℕ → Entry
target_entry caller slot target =
    record { caller = caller; call = call.Target slot; reply = reply.Target target; refined = [] }

abbrev pub pending_entry : ℕ → ℕ → Bool → Entry
pending_entry caller card answer =
    record { caller = caller; call = call.Pending card; reply = reply.Pending answer; refined = [] }

abbrev pub members_entry : ℕ → ℕ → List ℕ → Entry
members_entry caller region cards =
    record { caller = caller; call = call.Members region; reply = reply.Cards cards; refined = [] }

abbrev pub status_entry : ℕ → Status → Entry
status_entry caller status =
    record { caller = caller; call = call.Status; reply = reply.Status status; refined = [] }

abbrev pub drain_reply : Drained → Reply
drain_reply (drained.Cards cards refined) = reply.Cards cards
drain_reply (drained.Short refined) = reply.Short

-- the cards that a drain answers, none where it is short
abbrev pub drain_cards : Drained → List ℕ
drain_cards (drained.Cards cards refined) = cards
drain_cards (drained.Short refined) = []

abbrev pub drain_refined : Drained → List ℕ
drain_refined (drained.Cards cards refined) = refined
drain_refined (drained.Short refined) = refined

abbrev pub drain_entry : ℕ → ℕ → Drained → Entry
drain_entry caller region answer =
    record {
      caller = caller;
      call = call.Drain region;
      reply = drain_reply answer;
      refined = drain_refined answer;
    }

abbrev pub clear_entry : ℕ → ℕ → ClearReply → Entry
clear_entry caller region answer =
    record { caller = caller; call = call.Clear region; reply = reply.Clear answer; refined = [] }

abbrev pub redirect_reply : Redirected → Reply
redirect_reply (redirected.Moved slots refined) = reply.Moved slots
redirect_reply (redirected.Short refined) = reply.Short

abbrev pub redirect_refined : Redirected → List ℕ
redirect_refined (redirected.Moved slots refined) = refined
redirect_refined (redirected.Short refined) = refined

abbrev pub redirect_entry : ℕ → ℕ → ℕ → Redirected → Entry
redirect_entry caller from to answer =
    record {
      caller = caller;
      call = call.Redirect from to;
      reply = redirect_reply answer;
      refined = redirect_refined answer;
    }

abbrev pub layout_at : Machine → Shape
layout_at m = m.state.table.layout

pub record DoesStore (slot : ℕ) (target : Option ℕ) (reply : StoreReply)
    (old new : Machine) : Type 0 where
  pub kind : reply.kind ≡ kind_of old.state.table slot target
  pub refined : reply.refined ≡ []
  pub short : reply.short ≡ false
  pub machine : new ≡ stored_machine old slot target

-- What a store of this card does to the lent log, and the buffer that it hands out.
pub record IsLent (card : ℕ) (reply : StoreReply) (old new : Cards)
    (buffer : Option (List ℕ)) : Type 0 where
  pub fill : reply.fill ≡ fill_of buffer
  pub log : new ≡ logged reply.kind old card
  pub handed : buffer ≡ buffer_of reply.kind old card

pub record DoesRefine (buffer : Option (List ℕ)) (reply : RefineReply)
    (old new : Machine) : Type 0 where
  pub refined : IsRefined old.state buffer reply new.state
  pub reads : AreCardsRead old reply new
  pub taken : reply.taken ≤ 1
  pub cards : length reply.refined + reply.skipped ≤ 256
  pub hot : reply.hot ≤ 256
  pub left : reply.left ≡ 0
  pub idle : IsNone buffer → reply.taken ≡ 0

-- The slot refers to the target.
pub record TellsTarget (t : Table) (slot : ℕ) (target : Option ℕ) : Type 0 where
  pub refers : target ≡ target_of t slot
  pub within : IfSome target (λ place. place < slot_count t.layout)
  pub step : (caller : ℕ) → IsStep t (target_entry caller slot target) t

-- The answer is whether the card is pending.
pub record TellsPending (t : Table) (card : ℕ) (answer : Bool) : Type 0 where
  pub pending : answer ≡ set.contains t.pending card
  pub step : (caller : ℕ) → IsStep t (pending_entry caller card answer) t

-- These cards are recorded for the region, ascending, each once.
pub record TellsMembers (t : Table) (region : ℕ) (cards : List ℕ) : Type 0 where
  pub members : AreMembers t region cards
  pub step : (caller : ℕ) → IsStep t (members_entry caller region cards) t

-- The status counts the pending cards and the recorded pairs.
pub record TellsStatus (t : Table) (status : Status) : Type 0 where
  pub pending : status.pending ≡ set.len t.pending
  pub recorded : status.recorded ≡ set.len t.recorded
  pub step : (caller : ℕ) → IsStep t (status_entry caller status) t

pub record DoesTarget (slot : ℕ) (target : Option ℕ) (old new : Machine) : Type 0 where
  pub told : TellsTarget old.state.table slot target
  pub machine : new ≡ record {
    state = old.state;
    settings = old.settings;
    reads = reads_after old.reads 1;
  }

pub record DoesPending (card : ℕ) (answer : Bool) (old new : Machine) : Type 0 where
  pub told : TellsPending old.state.table card answer
  pub machine : new ≡ old

pub record DoesMembers (region : ℕ) (cards : List ℕ) (old new : Machine) : Type 0 where
  pub told : TellsMembers old.state.table region cards
  pub within : All (λ card. card < card_count (layout_at old)) cards
  pub machine : new ≡ old

pub record DoesStatus (status : Status) (old new : Machine) : Type 0 where
  pub told : TellsStatus old.state.table status
  pub machine : new ≡ old

pub record DoesDrain (region : ℕ) (answer : Drained) (old new : Machine) : Type 0 where
  pub drained : IsDrainOf old region answer new
  pub within : All (λ card. card < card_count (layout_at old)) (drain_cards answer)

pub record DoesClear (region : ℕ) (answer : ClearReply) (old new : Machine) : Type 0 where
  pub refused : answer ≢ Cleared → IsOnlyRead old new
  pub ring : new.state.ring ≡ old.state.ring
  pub unread : 1 ≤ set.len old.state.table.pending → new.reads ≡ old.reads
  pub reads : new.reads ≤ old.reads + member_count old.state.table region * (layout_at old).slots

-- What a copy of `count` slots does: no log gets a card.
abbrev pub DoesCopy : ℕ → ℕ → ℕ → Machine → Machine → Type 0
DoesCopy from to count old new = new ≡ record {
  state = record { table = copied from to count old.state.table; ring = old.state.ring };
  settings = old.settings;
  reads = reads_after old.reads count;
}

-- What a call does that lends nothing, by its values, its reply and the cards that it refined.
abbrev pub DoesAsked : Call → Reply → List ℕ → Machine → Machine → Type 0
DoesAsked (call.Target slot) (reply.Target target) cards old new = DoesTarget slot target old new
DoesAsked (call.Pending card) (reply.Pending answer) cards old new = DoesPending card answer old new
DoesAsked (call.Members region) (reply.Cards members) cards old new =
    DoesMembers region members old new
DoesAsked call.Status (reply.Status status) cards old new = DoesStatus status old new
DoesAsked (call.Drain region) (reply.Cards members) cards old new =
    DoesDrain region (drained.Cards members cards) old new
DoesAsked (call.Drain region) reply.Short cards old new =
    DoesDrain region (drained.Short cards) old new
DoesAsked (call.Clear region) (reply.Clear answer) cards old new = DoesClear region answer old new
DoesAsked (call.Redirect from to) (reply.Moved slots) cards old new =
    DoesRedirect from to (redirected.Moved slots cards) old new
DoesAsked (call.Redirect from to) reply.Short cards old new =
    DoesRedirect from to (redirected.Short cards) old new
DoesAsked _ _ cards old new = ⊥
