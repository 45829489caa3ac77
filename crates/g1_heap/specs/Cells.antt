-- What contracts see of a heap: what each slot refers to, the mark of each card, and how many slots
-- were read.
use Rattle.std.specs.Prelude.{◌≡◌, ◌≢◌, ◌≤◌, ◌<◌, ◌+◌, ◌-◌, ◌^◌}
use Rattle.g1_heap.specs.Prelude.{ℕ, List, Option, Some, None, IfSome, All, length, min}
use Rattle.g1_heap.specs.Prelude.{slice_index_or, slice_set, replicate, Shape, IsShape, slot_count}
use Rattle.g1_heap.specs.Prelude.{card_count, card_of, region_of, region_of_card}
use Rattle.g1_heap.specs.declared.mark.Mark.{Mark}
use Rattle.g1_heap.specs.declared.mark.Mark.TheVariants.{Clean, Dirty}

pub record Cells : Type 0 where
  pub layout : Shape
  pub refs : List (Option ℕ)  -- by slot: the place that it refers to, or null
  pub marks : List Mark  -- by card
  pub reads : ℕ

-- what every heap keeps
pub record AreCells (c : Cells) : Type 0 where
  pub shape : IsShape c.layout
  pub slots : length c.refs ≡ slot_count c.layout
  pub places : All (λ target. IfSome target (λ place. place < slot_count c.layout)) c.refs
  pub cards : length c.marks ≡ card_count c.layout

-- all slots null, all cards clean, nothing read
abbrev pub new_cells : Shape → Cells
new_cells l =
    record {
      layout = l;
      refs = replicate (slot_count l) None;
      marks = replicate (card_count l) Clean;
      reads = 0;
    }

-- a slot is written
abbrev pub with_ref : Cells → ℕ → Option ℕ → Cells
with_ref c slot target =
    record {
      layout = c.layout;
      refs = slice_set c.refs slot target;
      marks = c.marks;
      reads = c.reads;
    }

-- a card is marked
abbrev pub with_mark : Cells → ℕ → Mark → Cells
with_mark c card mark =
    record {
      layout = c.layout;
      refs = c.refs;
      marks = slice_set c.marks card mark;
      reads = c.reads;
    }

-- the reads after some more, which stop at the greatest number
abbrev pub reads_after : ℕ → ℕ → ℕ
reads_after reads more = min (reads + more) (2 ^ 64 - 1)

-- some more slots are read
abbrev pub with_reads : Cells → ℕ → Cells
with_reads c more =
    record { layout = c.layout; refs = c.refs; marks = c.marks; reads = reads_after c.reads more }

-- A card holds into a region where it doesn't lie in the region, and one of its slots refers to a
-- place in it.
pub record HoldsIn (l : Shape) (refs : List (Option ℕ)) (card region : ℕ) : Type 0 where
  pub slot : ℕ
  pub place : ℕ
  pub on_card : card_of l slot ≡ card
  pub refers : slice_index_or refs slot None ≡ Some place
  pub into : region_of l place ≡ region
  pub outside : region_of_card l card ≢ region

-- no card from this one on is dirty
abbrev pub HasNoDirty : List Mark → ℕ → Type 0
HasNoDirty marks from = (card : ℕ) → from ≤ card → slice_index_or marks card Clean ≢ Dirty

-- the card is dirty, and no card from the given one to below it is
pub record IsFirstDirty (marks : List Mark) (from card : ℕ) : Type 0 where
  pub within : card < length marks
  pub not_before : from ≤ card
  pub dirty : slice_index_or marks card Clean ≡ Dirty
  pub first : (earlier : ℕ) → from ≤ earlier → earlier < card
      → slice_index_or marks earlier Clean ≢ Dirty
