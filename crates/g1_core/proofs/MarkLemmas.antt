-- The card table and the set of pending cards.
use Rattle.std.specs.Prelude.{◌≡◌, ◌≢◌, ◌⊎◌, ◌<◌, ◌≤◌, ◌+◌, ◌∷◌, ◌↔◌}
use Rattle.g1_core.specs.{◌∙◌, inl, inr, ℕ, zero, suc, true, false, cond, List, [], length, get_or, Some, refl, sym, ap, arith, Contains, enumerate_from, filter_map, nat_cmp, nat_cmp_total, eq_by_cmp_equiv, exact_unsigned, cases_lt, cases_eq, or_left, true≢false, get_or-set_same, get_or-set_other, get_or_past, length-enumerate_from, Mark, Clean, Dirty, Held, pending_of, marked_card, CardSet, set_of, list_set, cases_cond}
use Rattle.std.specs.FinSet as set
use Rattle.g1_core.proofs.SetLemmas.{same_cards, in_list, in_set, from_places, to_places, one_fewer}

pub held_clean : (mark : Mark) → mark ≡ Held → mark ≢ Clean
held_clean mark h c = let both : Held ≡ Clean = sym h ∙ c in cc

pub dirty_clean : (mark : Mark) → mark ≡ Dirty → mark ≢ Clean
dirty_clean mark h c = let both : Dirty ≡ Clean = sym h ∙ c in cc

pub dirty_held : (mark : Mark) → mark ≡ Dirty → mark ≢ Held
dirty_held mark h c = let both : Dirty ≡ Held = sym h ∙ c in cc

pub marked_cases : (mark : Mark) → mark ≢ Clean → (mark ≡ Dirty) ⊎ (mark ≡ Held)
marked_cases mark ne = grind arith

marked : (card : ℕ) (mark : Mark) (q : ℕ) → marked_card (card, mark) ≡ Some q → (card ≡ q) × (mark ≢ Clean)
marked card mark q e = grind arith

marks_card : (card : ℕ) (mark : Mark) → mark ≢ Clean → marked_card (card, mark) ≡ Some card
marks_card card mark ne = grind arith

pub from_pending : (marks : List Mark) (q : ℕ) → set.contains (pending_of marks) q ≡ true → get_or marks q Clean ≢ Clean
from_pending marks q h e =
    let k = from_places marked_card marks Clean q (in_list _ q h) in
    let m : (k.0 ≡ q) × (get_or marks k.0 Clean ≢ Clean) = marked k.0 (get_or marks k.0 Clean) q k.2 in
    m.1 (ap (λ (i : ℕ). get_or marks i Clean) m.0 ∙ e)

pub is_card : (marks : List Mark) (q : ℕ) → get_or marks q Clean ≢ Clean → q < length marks
is_card marks q ne = elim (cases_lt q (length marks)) [ inl l ↦ l | inr past ↦ absurd (ne (get_or_past marks q Clean past)) ]

pub to_pending : (marks : List Mark) (q : ℕ) → get_or marks q Clean ≢ Clean → set.contains (pending_of marks) q ≡ true
to_pending marks q ne = in_set _ q (to_places marked_card marks Clean q q (is_card marks q ne) (marks_card q (get_or marks q Clean) ne))

pub one_of : {X : Type 0} (q card : X) → Contains (card ∷ []) q → q ≡ card
one_of q card (zero, lt, e) = sym e
one_of q card (suc k, lt, e) = absurd (omega arith)

pub itself : (q card : ℕ) → q ≡ card → Contains (card ∷ []) q
itself q card e = (0, omega arith, sym e)

without_one : (cards : CardSet) (card : ℕ) → set.difference cards (set_of (card ∷ [])) ≡ set.remove cards card
without_one cards card = set.same_set nat_cmp_total exact_unsigned _ _ (λ q. simp (set.contains-difference nat_cmp_total, set.contains-remove nat_cmp_total, set.contains-insert nat_cmp_total, set.contains-empty) (grind arith))

-- one mark is written
module _ (marks : List Mark) (card : ℕ) (mark : Mark) (inside : card < length marks) where
  pub mark_here : get_or (list_set marks card mark) card Clean ≡ mark
  mark_here = get_or-set_same marks card mark Clean inside

  pub mark_there : (q : ℕ) → q ≢ card → get_or (list_set marks card mark) q Clean ≡ get_or marks q Clean
  mark_there q ne = get_or-set_other marks card q mark Clean ne

  -- what is pending then, by the mark and by what was pending elsewhere
  pending_written : (cards : CardSet) → (mark ≢ Clean) ↔ (set.contains cards card ≡ true) → ((q : ℕ) → q ≢ card → set.contains cards q ≡ set.contains (pending_of marks) q) → pending_of (list_set marks card mark) ≡ cards
  pending_written cards here there = same_cards _ _
      (λ q h. elim (cases_eq q card) [
        | inl is ↦ rw is (here.0 (λ e. from_pending (list_set marks card mark) q h (rw is mark_here ∙ e)))
        | inr ne ↦ there q ne ∙ to_pending marks q (λ e. from_pending (list_set marks card mark) q h (mark_there q ne ∙ e))
      ])
      (λ q h. to_pending (list_set marks card mark) q (λ e. elim (cases_eq q card) [
        | inl is ↦ here.1 (rw is at h) (sym mark_here ∙ rw is at e)
        | inr ne ↦ from_pending marks q (sym (there q ne) ∙ h) (sym (mark_there q ne) ∙ e)
      ]))

  -- a card that is marked becomes pending
  pub pending_marked : mark ≢ Clean → pending_of (list_set marks card mark) ≡ set.insert (pending_of marks) card
  pending_marked some = pending_written _ ((λ _. set.contains-insert nat_cmp_total (pending_of marks) card card ∙ or_left _ _ ((eq_by_cmp_equiv nat_cmp_total).refl card)), λ _. some)
      (λ q ne. rw (set.contains-insert nat_cmp_total (pending_of marks) card q) (grind arith))

  -- a card that is cleaned is pending no more
  pub pending_cleaned : mark ≡ Clean → pending_of (list_set marks card mark) ≡ set.difference (pending_of marks) (set_of (card ∷ []))
  pending_cleaned none = pending_written (set.remove (pending_of marks) card) ((λ some. absurd (some none)), λ h. absurd (true≢false (sym h ∙ rw (set.contains-remove nat_cmp_total (pending_of marks) card card) (grind arith))))
      (λ q ne. rw (set.contains-remove nat_cmp_total (pending_of marks) card q) (grind arith)) ∙ sym (without_one (pending_of marks) card)

  -- another mark of a pending card leaves it pending
  pub pending_kept : mark ≢ Clean → get_or marks card Clean ≢ Clean → pending_of (list_set marks card mark) ≡ pending_of marks
  pending_kept some was = pending_written _ ((λ _. to_pending marks card was), λ _. some) (λ q ne. refl)

-- how many cards are pending
pub few_listed : (cards : List ℕ) → set.len (set_of cards) ≤ length cards
few_listed [] = omega (arith, set.len-empty nat_cmp)
few_listed (card ∷ cards) = omega (arith, few_listed cards, cases_cond (set.contains (set_of cards) card) (set.len (set_of cards)) (set.len (set_of cards) + 1) _ (set.len-insert nat_cmp_total (set_of cards) card))

few_kept : (pairs : List (ℕ × Mark)) → length (filter_map marked_card pairs) ≤ length pairs
few_kept [] = omega arith
few_kept ((card, Clean) ∷ pairs) = omega (arith, few_kept pairs)
few_kept ((card, _) ∷ pairs) = omega (arith, few_kept pairs)

-- no more cards are pending than there are
pub few_pending : (marks : List Mark) → set.len (pending_of marks) ≤ length marks
few_pending marks = omega (arith, few_listed (filter_map marked_card (enumerate_from 0 marks)), few_kept (enumerate_from 0 marks), length-enumerate_from 0 marks)

-- a member leaves
pub one_less : (cards : CardSet) (card : ℕ) → set.contains cards card ≡ true → set.len (set.difference cards (set_of (card ∷ []))) + 1 ≡ set.len cards
one_less cards card h = ap (λ (s : CardSet). set.len s + 1) (without_one cards card) ∙ one_fewer nat_cmp_total exact_unsigned cards card h

-- a new member joins
pub one_more : (cards : CardSet) (card : ℕ) → set.contains cards card ≡ false → set.len (set.insert cards card) ≡ set.len cards + 1
one_more cards card h = set.len-insert nat_cmp_total cards card ∙ ap (λ b. cond b (set.len cards) (set.len cards + 1)) h

pub none_of : (cards : CardSet) → set.len cards ≡ 0 → cards ≡ set.empty
none_of cards e = set.empty_of_len cards e
