-- What is known where one seat has all the weight, and how a race begins anew.
use Rattle.std.specs.Prelude.{◌≡◌, ◌⊎◌, ◌<◌, ◌≤◌, ◌∷◌}
use Rattle.g1_race_words.specs.{ℕ, zero, suc, List, [], set, true, refl, sym, ap, ◌∙◌, subst, inl, inr, ⊎_elim, arith, some, some-ne-none, get_elem?, RaceShape, View, Start, In, Held, cleanings_of, pairs_found, held_of, slot_card, region_at, mark_word, AnswersFor, IsMarked, IsWholeShape, HasBit, IsNoted, StoredInto, BeganInto, Someone, OfSome, cases_eq, AtRest, IsBlank, MadeDirty, total, tally, numbers, front, pairs_up_to, Raced, IsBegun, Going, started, beginning, start_of}
use Rattle.g1_race_words.proofs.Plain.{one_there, each_set, total_none, weigh_all, total_set}
use Rattle.g1_race_words.proofs.Tallies.{below_up_to, numbers_none}
use Rattle.g1_race_words.proofs.AtBeginning.{raced_fresh, going_fresh}
use Rattle.g1_race_words.proofs.Going.{others_blank, Agrees, known}

-- totals where only one seat counts

pub total_alone : (f : View → ℕ) (views : List View) (id : ℕ) (v w : View) → get_elem? views id ≡ some v → ((seat : ℕ) (u : View) → get_elem? views seat ≡ some u → ¬ (seat ≡ id) → f u ≡ 0) → total f (set views id w) ≡ f w
total_alone f [] id v w at none = absurd (some-ne-none v (sym at))
total_alone f (u ∷ us) zero v w at none = let b = total_none f us (λ seat x there. none (suc seat) x there (λ e. absurd (omega (arith, e)))) in omega arith
total_alone f (u ∷ us) (suc id) v w at none = let a = none 0 u refl (λ e. absurd (omega (arith, e))) in let b = total_alone f us id v w at (λ seat x there ne. none (suc seat) x there (λ e. ne (omega (arith, e)))) in omega arith

-- a seat with all the weight

module _ (k : RaceShape) (words : List ℕ) (views : List View) (id : ℕ) (v : View) (all : v.weight ≡ k.parties) (pos : 0 < k.parties) (h : Going k words views) (at : get_elem? views id ≡ some v) where
  pub mine : (start_of v ≡ started k h.first) × (v.frozen ≡ h.frozen)
  mine = h.agreed id v at (omega (arith, all, pos))

  pub raced_mine : Raced (beginning (start_of v)) words views
  raced_mine = subst (λ (b : Start). Raced (beginning b) words views) (sym mine.0) h.raced

  pub shape_mine : v.shape ≡ k
  shape_mine = ap (λ (b : Start). b.shape) mine.0

  others : (seat : ℕ) (u : View) → get_elem? views seat ≡ some u → ¬ (seat ≡ id) → IsBlank u
  others = others_blank (beginning (started k h.first)) words views id v h.raced at all

  light : (seat : ℕ) (u : View) → get_elem? views seat ≡ some u → ¬ (seat ≡ id) → u.weight ≡ 0
  light seat u there ne = weigh_all views id seat v u at there ne (h.raced.weighed.0 ∙ sym all)

  pub known_words : v.frozen ≡ true → words ≡ v.began_words
  known_words = known k words views h id v at (omega (arith, all, pos))

  no_numbers : (m seat : ℕ) (u : View) → get_elem? views seat ≡ some u → ¬ (seat ≡ id) → numbers m u ≡ 0
  no_numbers m seat u there ne = let few = h.spared seat u there in let empty = light seat u there ne in numbers_none m u (others seat u there ne).1 (omega (arith, few, empty))

  -- a race begins anew, with any words that one can start with
  pub going_anew : (new : List ℕ) (w : View) → IsBegun (started k new) → IsBlank w → w.weight ≡ k.parties → w.spare ≤ k.parties → start_of w ≡ started k new → Going k new (set views id w)
  going_anew new w b still weight spare is = going_fresh k new (set views id w) w.frozen b
      (raced_fresh k new (set views id w) b (each_set views id w IsBlank others still)
      (let a = total_set (λ u. u.weight) views id v w at in let t = h.raced.weighed.0 in omega (arith, a, t, all, weight))
      (λ m.
      let a = total_alone (numbers m) views id v w at (no_numbers m) in
      let t : tally m w.histories ≡ 0 = ap (tally m) still.1 in
      let c = below_up_to m w.spare k.parties spare in omega (arith, a, t, c)))
      (each_set views id w (λ (u : View). Agrees (started k new) w.frozen u) (λ seat u there ne lt. let z = light seat u there ne in absurd (omega (arith, z, lt))) (λ lt. (is, refl)))
      (each_set views id w (λ (u : View). u.spare ≤ u.weight) (λ seat u there ne. h.spared seat u there) (omega (arith, weight, spare)))
      (each_set views id w IsBlank others still)

  -- at rest, the words are what a race can start with
  pub begun_here : IsWholeShape k → AtRest v → IsBegun (started k words)
  begun_here shaped rest = record {
    shaped = shaped;
    sized = h.raced.sized;
    bounded = h.raced.bounded;
    marks = λ c lt. ⊎_elim
        (λ (x : (get_elem? words (mark_word k c) ≡ some 1) × MadeDirty k (front k h.first) views c). inl x.0)
        (λ (x : (get_elem? words (mark_word k c) ≡ some 0) × (Held cleanings_of views c ⊎ (MadeDirty k (front k h.first) views c → ⊥))). inr x.0)
        (h.raced.claimed c lt);
    covered = λ p n lt there cr. ⊎_elim
        (λ (i : In (pairs_up_to k h.first k.cards) (slot_card k p, region_at k n)). inl (noted_bit _ (inl i)))
        (λ (y : IsMarked k words p ⊎ Someone k views p n). ⊎_elim (λ (m : IsMarked k words p). inr m) (λ (s : Someone k views p n). inl (noted_bit _ (inr (id, v, at, someone p n s)))) y)
        (h.raced.covered p n lt there cr);
    proper = λ x pair b. ⊎_elim
        (λ (i : In (pairs_up_to k h.first k.cards) x). h.proper x i)
        (λ (a : Held pairs_found views x). ⊎_elim
        (λ (s : StoredInto k views x). (s.1, s.2, s.5, s.6))
        (λ (i : BeganInto k (front k h.first) x). (i.0, i.1, i.3, i.4))
        (h.raced.recorded x a))
        (h.raced.kept.only x pair b);
    flagged = h.raced.flagged.marked;
  }
    where
      mine_answers : (p n : ℕ) → AnswersFor k v p n → In v.pairs (slot_card k p, region_at k n)
      mine_answers p n (inl o) = let r = rest.0 in absurd (cc (o, r))
      mine_answers p n (inr (inl a)) = let r = rest.1 in absurd (omega (arith, a.0, a.1, r))
      mine_answers p n (inr (inr a)) = a

      blank_answers : (u : View) (p n : ℕ) → IsBlank u → AnswersFor k u p n → ⊥
      blank_answers u p n s (inl o) = absurd (cc (o, s.0.0))
      blank_answers u p n s (inr (inl a)) = absurd (omega (arith, a.0, a.1, s.0.1))
      blank_answers u p n s (inr (inr a)) = subst (λ (l : List (ℕ × ℕ)). In l (slot_card k p, region_at k n)) s.4 a

      -- what is so of some seat is so of this one, or of one that answers for nothing
      alone : (P : View → Type 0) → OfSome P views → P v ⊎ ((u : View) × IsBlank u × P u)
      alone P s = elim (cases_eq s.0 id) [ inl e ↦ inl (subst P (one_there views id s.1 v (rw e at s.2) at) s.3) | inr ne ↦ inr (s.1, others s.0 s.1 s.2 ne, s.3) ]

      someone : (p n : ℕ) → Someone k views p n → In v.pairs (slot_card k p, region_at k n)
      someone p n s = elim (alone (λ u. AnswersFor k u p n) s) [ inl a ↦ mine_answers p n a | inr b ↦ absurd (blank_answers b.0 p n b.1 b.2) ]

      no_pair : (x : ℕ × ℕ) → Held held_of views x → ⊥
      no_pair x b = elim (alone (λ u. In u.held x) b) [ inl i ↦ absurd (rw rest.2 at i) | inr c ↦ absurd (rw c.1.0.2 at c.2) ]

      noted_bit : (x : ℕ × ℕ) → IsNoted (pairs_up_to k h.first k.cards) views x → HasBit k words x
      noted_bit x n = ⊎_elim (λ (b : HasBit k words x). b) (λ (b : Held held_of views x). absurd (no_pair x b)) (h.raced.kept.has x n)
