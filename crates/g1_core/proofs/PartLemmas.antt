-- The parts of a core and the state that they stand for.
use Rattle.std.specs.Prelude.{◌≡◌, ◌≢◌, ◌<◌, ◌+◌, ◌∷◌, ◌++◌, ◌↔◌, ◌≤◌}
use Rattle.g1_core.specs.{IsDistinct-tail, ◌∙◌, inl, inr, ℕ, suc, true, false, cond, List, [], length, get_or, drop, Option, Some, None, refl, sym, ap, subst, arith, Contains, nat_eq, slice_get, IsDistinct, cases_eq, false_from_ne_true, length-set, Contains-push, Contains-append_left, Contains-push_cases, PairSet, Mark, Clean, Dirty, Held, Cells, with_mark, with_reads, Offer, Ring, answer, popped, IsCovered, IsPending, refined, State, IsPlaced, AreParts, pending_of, table_from, state_from, gained, is_dirty, offer_to, AreCells, AreOutside, nat_cmp_total, exact_unsigned, list_set, Contains-tail}
use Rattle.g1_core.specs.Table.{Table}
use Rattle.std.specs.FinSet as set
use Rattle.g1_core.proofs.SetLemmas.{All_by_member, front_apart, some_member}
use Rattle.g1_core.proofs.TableLemmas.{refined_covered}
use Rattle.g1_core.proofs.RunLemmas.{refined_outside}
use Rattle.g1_core.proofs.MarkLemmas.{held_clean, dirty_clean, dirty_held, marked_cases, from_pending, to_pending, is_card, pending_cleaned, pending_kept, mark_here, mark_there, one_less}
use Rattle.g1_core.proofs.RefinedLemmas.{push_distinct}
use Rattle.g1_core.proofs.TurnLemmas.{IsDirty, dirty_from, to_dirty}

-- new parts, and the table that they stand for
pub record IsMade (heap' : Cells) (pairs' : PairSet) (ring' : Ring) (pending' : ℕ) (t : Table) : Type 0 where
  pub parts : AreParts heap' pairs' ring' pending'
  pub table : table_from heap' pairs' ≡ t

module _ (heap : Cells) (pairs : PairSet) (ring : Ring) (pending : ℕ) (parts : AreParts heap pairs ring pending) where
  abbrev pub now : State
  now = state_from heap pairs ring

  abbrev pub mark_of : ℕ → Mark
  mark_of card = get_or heap.marks card Clean

  pub parts_placed : IsPlaced now
  parts_placed = record {
    some = parts.some;
    distinct = parts.distinct;
    pending = All_by_member (IsPending (table_from heap pairs)) ring.cards (λ q c. to_pending heap.marks q (held_clean (mark_of q) ((parts.held q).0 c)));
  }

  -- a dirty card is one with the mark dirty
  pub dirty_mark : (card : ℕ) → mark_of card ≡ Dirty → IsDirty now card
  dirty_mark card is = record {
    pending = to_pending heap.marks card (dirty_clean (mark_of card) is);
    apart = λ c. dirty_held (mark_of card) is ((parts.held card).0 c);
  }

  pub mark_dirty : (card : ℕ) → is_dirty now card ≡ true → mark_of card ≡ Dirty
  mark_dirty card h =
      let d : IsDirty now card = dirty_from now card h in
      elim (marked_cases (mark_of card) (from_pending heap.marks card d.pending)) [
        | inl is ↦ is
        | inr held ↦ absurd (d.apart ((parts.held card).1 held))
      ]

  pub is_dirty_mark : (card : ℕ) → mark_of card ≡ Dirty → is_dirty now card ≡ true
  is_dirty_mark card is = let d : IsDirty now card = dirty_mark card is in to_dirty now card d.pending d.apart

  pub not_dirty : (card : ℕ) → mark_of card ≢ Dirty → is_dirty now card ≡ false
  not_dirty card ne = false_from_ne_true _ (λ h. ne (mark_dirty card h))

  pub offer_dirty : (card : ℕ) (o : Offer) → mark_of card ≡ Dirty → answer ring card ≡ o → offer_to now card ≡ Some o
  offer_dirty card o dirty is = ap (λ b. cond b (Some (answer ring card)) None) (is_dirty_mark card dirty) ∙ ap (λ (o : Offer). Some o) is

  pub offer_none : (card : ℕ) → mark_of card ≢ Dirty → offer_to now card ≡ None
  offer_none card ne = ap (λ b. cond {A = Option Offer} b (Some (answer ring card)) None) (not_dirty card ne)

  -- a marked card is one that is pending
  pub some_pending : (q : ℕ) → mark_of q ≢ Clean → 1 ≤ pending
  some_pending q marked = omega (arith, some_member nat_cmp_total exact_unsigned (pending_of heap.marks) q (to_pending heap.marks q marked), parts.known)

  -- A pending card is refined and clean afterwards, and the ring holds just the other cards.
  module _ (ring' : Ring) (pending' card more : ℕ) (marked : mark_of card ≢ Clean) (less : pending' + 1 ≡ pending)
      (counts : length ring'.counts ≡ length ring.counts) (capacity : ring'.capacity ≡ ring.capacity) (distinct : IsDistinct nat_eq ring'.cards)
      (stands : (q : ℕ) → Contains ring'.cards q ↔ (Contains ring.cards q × (q ≢ card))) where
    inside : card < length heap.marks
    inside = is_card heap.marks card marked

    pub cleaned : IsMade (with_mark (with_reads heap more) card Clean) (gained heap pairs card) ring' pending' (refined (card ∷ []) (table_from heap pairs))
    cleaned =
        let table : table_from (with_mark (with_reads heap more) card Clean) (gained heap pairs card) ≡ refined (card ∷ []) (table_from heap pairs) = λ i. record { layout = heap.layout; refs = heap.refs; pending = pending_cleaned heap.marks card Clean inside refl i; recorded = gained heap pairs card } in
        let fewer : set.len (pending_of (list_set heap.marks card Clean)) + 1 ≡ set.len (pending_of heap.marks) = ap (λ s. set.len s + 1) (pending_cleaned heap.marks card Clean inside refl) ∙ one_less (pending_of heap.marks) card (to_pending heap.marks card marked) in
        let cells : AreCells (with_mark (with_reads heap more) card Clean) = record { shape = parts.cells.shape; slots = parts.cells.slots; places = parts.cells.places; cards = length-set heap.marks card Clean ∙ parts.cells.cards } in
        let held : (q : ℕ) → Contains ring'.cards q ↔ (get_or (list_set heap.marks card Clean) q Clean ≡ Held) = λ q. elim (cases_eq q card) [
          | inl same ↦ (λ c. absurd (((stands q).0 c).1 same), λ is. absurd (held_clean _ is (rw same (mark_here heap.marks card Clean inside))))
          | inr ne ↦ rw (mark_there heap.marks card Clean inside q ne) (λ c. (parts.held q).0 ((stands q).0 c).0, λ is. (stands q).1 ((parts.held q).1 is, ne))
        ] in
        let cover : IsCovered (table_from (with_mark (with_reads heap more) card Clean) (gained heap pairs card)) = subst IsCovered (sym table) (refined_covered (card ∷ []) (table_from heap pairs) parts.cover) in
        let outside : AreOutside (table_from (with_mark (with_reads heap more) card Clean) (gained heap pairs card)) = refined_outside (table_from heap pairs) parts.cells.shape parts.cells.slots parts.cells.places (card ∷ []) parts.outside in
        record { parts = record { cells = cells; counts = counts ∙ parts.counts; some = omega (arith, capacity, parts.some); distinct = distinct; held = held; known = omega (arith, fewer, less, parts.known); cover = cover; outside = outside }; table = table }

  -- A dirty card goes last into the ring.
  module _ (ring' : Ring) (card : ℕ) (dirty : mark_of card ≡ Dirty) (counts : length ring'.counts ≡ length ring.counts) (capacity : ring'.capacity ≡ ring.capacity) (cards : ring'.cards ≡ ring.cards ++ card ∷ []) where
    within : card < length heap.marks
    within = is_card heap.marks card (dirty_clean (mark_of card) dirty)

    same_pending : pending_of (list_set heap.marks card Held) ≡ pending_of heap.marks
    same_pending = pending_kept heap.marks card Held within (held_clean Held refl) (dirty_clean (mark_of card) dirty)

    pub held_last : IsMade (with_mark heap card Held) pairs ring' pending (table_from heap pairs)
    held_last =
        let table : table_from (with_mark heap card Held) pairs ≡ table_from heap pairs = λ i. record { layout = heap.layout; refs = heap.refs; pending = same_pending i; recorded = pairs } in
        let cells : AreCells (with_mark heap card Held) = record { shape = parts.cells.shape; slots = parts.cells.slots; places = parts.cells.places; cards = length-set heap.marks card Held ∙ parts.cells.cards } in
        let held : (q : ℕ) → Contains ring'.cards q ↔ (get_or (list_set heap.marks card Held) q Clean ≡ Held) = λ q. rw cards (elim (cases_eq q card) [
          | inl is ↦ (λ c. rw is (mark_here heap.marks card Held within), λ held. rw is (Contains-push ring.cards card))
          | inr ne ↦ rw (mark_there heap.marks card Held within q ne) (λ c. elim (Contains-push_cases ring.cards card q c) [ inl c' ↦ (parts.held q).0 c' | inr is ↦ absurd (ne (sym is)) ], λ held. Contains-append_left ring.cards (card ∷ []) q ((parts.held q).1 held))
        ]) in
        let cover : IsCovered (table_from (with_mark heap card Held) pairs) = subst IsCovered (sym table) parts.cover in
        record { parts = record { cells = cells; counts = counts ∙ parts.counts; some = omega (arith, capacity, parts.some); distinct = rw cards (push_distinct ring.cards card parts.distinct ((dirty_mark card dirty).apart)); held = held; known = parts.known ∙ ap set.len (sym same_pending); cover = cover; outside = parts.outside }; table = table }

  -- a dirty card does not stand in the ring
  pub apart_stands : (card : ℕ) → mark_of card ≡ Dirty → (q : ℕ) → Contains ring.cards q ↔ (Contains ring.cards q × (q ≢ card))
  apart_stands card dirty q = (λ c. (c, λ e. (dirty_mark card dirty).apart (subst (Contains ring.cards) e c)), λ c. c.0)

  -- the oldest card of the ring
  module _ (oldest : ℕ) (rest : List ℕ) (cards : ring.cards ≡ oldest ∷ rest) where
    whole : IsDistinct nat_eq (oldest ∷ rest)
    whole = subst (IsDistinct nat_eq) cards parts.distinct

    pub oldest_mark : mark_of oldest ≡ Held
    oldest_mark = (parts.held oldest).0 (subst (λ xs. Contains xs oldest) (sym cards) (0, omega arith, refl))

    pub left_is : (popped ring).cards ≡ rest
    left_is = ap (λ (xs : List ℕ). drop 1 xs) cards

    pub left_distinct : IsDistinct nat_eq (popped ring).cards
    left_distinct = rw left_is (IsDistinct-tail nat_eq oldest rest whole)

    others : (q : ℕ) → Contains rest q ↔ (Contains (oldest ∷ rest) q × (q ≢ oldest))
    others q = (
      λ c. ((suc c.0, omega (arith, c.1), c.2), λ e. front_apart oldest rest whole (subst (Contains rest) e c)),
      λ c. Contains-tail oldest rest q (λ e. c.1 (sym e)) c.0,
    )

    pub left_stands : (q : ℕ) → Contains (popped ring).cards q ↔ (Contains ring.cards q × (q ≢ oldest))
    left_stands q = rw (left_is, cards) (others q)

    -- a dirty card is another one
    pub differs : (card : ℕ) → mark_of card ≡ Dirty → card ≢ oldest
    differs card dirty e = dirty_held (mark_of oldest) (ap (λ (k : ℕ). mark_of k) (sym e) ∙ dirty) oldest_mark

pub record IsFront (xs : List ℕ) (d : ℕ) : Type 0 where
  pub rest : List ℕ
  pub cards : xs ≡ d ∷ rest

pub front_of : (xs : List ℕ) (d : ℕ) → Some d ≡ slice_get xs 0 → IsFront xs d
front_of [] d e = cc
front_of (x ∷ xs) d e = let same : x ≡ d = cc in record { rest = xs; cards = ap (λ (y : ℕ). y ∷ xs) same }
