-- A racer writes a slot.
use Rattle.std.specs.Prelude.{◌≡◌, ◌≢◌, ◌⊎◌, ◌<◌, ◌∷◌}
use Rattle.g1_race_words.specs.{ℕ, eqb, List, [], set, get_or, Some, None, refl, sym, ap, ◌∙◌, subst, inl, inr, ⊎_elim, length-set, eq-eqb, ne_eqb, arith, some, get_elem?, at_set, set_else, RaceShape, View, Begun, IsWord, BeganInto, mark_word, flag, In, Held, StoreHistory, histories_of, claims_of, cleanings_of, pairs_found, last_to, SlotsStored, StoredInto, Recorded, Raced, gains_store, wrote, Sits}
use Rattle.g1_race_words.proofs.Plain.{put_here, some_or, true_is, false_is, held_back, held_same}
use Rattle.g1_race_words.proofs.Tallies.{tally_gained}
use Rattle.g1_race_words.proofs.CoverStores.{mark_apart, covered_wrote}
use Rattle.g1_race_words.proofs.PairBits.{same_bits, bit_as}
use Rattle.g1_race_words.proofs.Flags.{flags_stay}
use Rattle.g1_race_words.proofs.Keeping.{kept_stays}
use Rattle.g1_race_words.proofs.Balance.{balanced_wrote}
use Rattle.g1_race_words.proofs.Unchanged.{weighed_step, numbered_step, same_numbers, bounded_wrote, claimed_same, counted_stays}

other_last : (p n q : ℕ) (h : List (ℕ × ℕ)) → q ≢ p → last_to q ((p, n) ∷ h) ≡ last_to q h
other_last p n q h apart = false_is (eqb p q) (Some n) (last_to q h) (ne_eqb p q (λ e. apart (sym e)))

this_last : (p n : ℕ) (h : List (ℕ × ℕ)) → last_to p ((p, n) ∷ h) ≡ Some n
this_last p n h = true_is (eqb p p) (Some n) (last_to p h) (eq-eqb p p refl)

-- a history with one store more
abbrev pub grown : ℕ → ℕ → StoreHistory → StoreHistory
grown p n h = (h.0, (p, n) ∷ h.1)

-- each history stays, or gains the store
pub gained_on : (p n : ℕ) (hs : List StoreHistory) (h : StoreHistory) → In hs h → In (gains_store p n hs) h ⊎ In (gains_store p n hs) (grown p n h)
gained_on p n [] h i = absurd i
gained_on p n (g ∷ gs) h (inl e) = inr (inl (ap (λ (l : StoreHistory). grown p n l) e))
gained_on p n (g ∷ gs) h (inr i) = inl (inr i)

-- each history was there, or was there before it gained the store
gained_back : (p n : ℕ) (hs : List StoreHistory) (h : StoreHistory) → In (gains_store p n hs) h → In hs h ⊎ ((g : StoreHistory) × In hs g × (h ≡ grown p n g))
gained_back p n [] h i = absurd i
gained_back p n (g ∷ gs) h (inl e) = inr (g, inl refl, sym e)
gained_back p n (g ∷ gs) h (inr i) = inl (inr i)

held_gained : (views : List View) (id : ℕ) (v : View) (p n o : ℕ) → get_elem? views id ≡ some v → (h : StoreHistory) → Held histories_of views h → Held histories_of (set views id (wrote v p n o)) h ⊎ Held histories_of (set views id (wrote v p n o)) (grown p n h)
held_gained views id v p n o at h x = let w = wrote v p n o in ⊎_elim (λ (a : Held histories_of (set views id w) (grown p n h)). inr a) (λ (a : Held histories_of (set views id w) h). inl a)
    (some_or (λ u. In u.histories h) (Held histories_of (set views id w) (grown p n h)) views id v w at
    (λ i. ⊎_elim (λ (a : In w.histories h). inr a) (λ (a : In w.histories (grown p n h)). inl (id, w, put_here views id v w at, a)) (gained_on p n v.histories h i)) x)

held_before : (views : List View) (id : ℕ) (v : View) (p n o : ℕ) → get_elem? views id ≡ some v → (h : StoreHistory) → Held histories_of (set views id (wrote v p n o)) h → Held histories_of views h ⊎ ((g : StoreHistory) × Held histories_of views g × (h ≡ grown p n g))
held_before views id v p n o at h x = ⊎_elim
    (λ (a : Held histories_of views h). inl a)
    (λ (i : In (gains_store p n v.histories) h). ⊎_elim (λ (a : In v.histories h). inl (id, v, at, a)) (λ (a : (g : StoreHistory) × In v.histories g × (h ≡ grown p n g)). inr (a.0, (id, v, at, a.1), a.2)) (gained_back p n v.histories h i))
    (held_back histories_of views id (wrote v p n o) h x)

stored_wrote : (k : RaceShape) (began : List ℕ) (words : List ℕ) (views : List View) (id : ℕ) (v : View) (p n o : ℕ) (mine : StoreHistory) → get_elem? views id ≡ some v → v.histories ≡ mine ∷ [] → SlotsStored k began words views → SlotsStored k began (set words p n) (set views id (wrote v p n o))
stored_wrote k began words views id v p n o mine at one h q m lt there = ⊎_elim
    (λ (x : (q ≡ p) × (n ≡ m)). inl (grown p n mine, (id, wrote v p n o, put_here views id v (wrote v p n o) at, newest), subst (λ (y : ℕ × ℕ). last_to y.0 ((p, n) ∷ mine.1) ≡ Some y.1) (λ i. (sym x.0 i, x.1 i)) (this_last p n mine.1)))
    (λ (x : (q ≢ p) × (get_elem? words q ≡ some m)). ⊎_elim (was x.0) (never x.0) (h q m lt x.1))
    (at_set words p q n m there)
  where
    after : List View
    after = set views id (wrote v p n o)

    newest : In (gains_store p n v.histories) (grown p n mine)
    newest = subst (λ (l : List StoreHistory). In (gains_store p n l) (grown p n mine)) (sym one) (inl refl)

    Goal : Type 0
    Goal = ((g : StoreHistory) × Held histories_of after g × (last_to q g.1 ≡ Some m)) ⊎ ((get_elem? began q ≡ some m) × ((g : StoreHistory) → Held histories_of after g → last_to q g.1 ≡ None))

    was : q ≢ p → ((g : StoreHistory) × Held histories_of views g × (last_to q g.1 ≡ Some m)) → Goal
    was apart x = ⊎_elim
        (λ (a : Held histories_of after x.0). inl (x.0, a, x.2))
        (λ (a : Held histories_of after (grown p n x.0)). inl (grown p n x.0, a, other_last p n q x.0.1 apart ∙ x.2))
        (held_gained views id v p n o at x.0 x.1)

    never : q ≢ p → ((get_elem? began q ≡ some m) × ((g : StoreHistory) → Held histories_of views g → last_to q g.1 ≡ None)) → Goal
    never apart x = inr (
      x.0,
      λ g b. ⊎_elim
          (λ (a : Held histories_of views g). x.1 g a)
          (λ (a : (f : StoreHistory) × Held histories_of views f × (g ≡ grown p n f)). ap (λ (l : StoreHistory). last_to q l.1) a.2 ∙ (other_last p n q a.0.1 apart ∙ x.1 a.0 a.1))
          (held_before views id v p n o at g b),
    )

recorded_wrote : (k : RaceShape) (began : List ℕ) (views : List View) (id : ℕ) (v : View) (p n o : ℕ) → get_elem? views id ≡ some v → Recorded k began views → Recorded k began (set views id (wrote v p n o))
recorded_wrote k began views id v p n o at h x held = ⊎_elim
    (λ (s : StoredInto k views x). inl (⊎_elim
    (λ (a : Held histories_of (set views id (wrote v p n o)) s.0). (s.0, s.1, s.2, a, s.4, s.5, s.6))
    (λ (a : Held histories_of (set views id (wrote v p n o)) (grown p n s.0)). (grown p n s.0, s.1, s.2, a, inr s.4, s.5, s.6))
    (held_gained views id v p n o at s.0 s.3)))
    (λ (i : BeganInto k began x). inr i)
    (h x ((held_same pairs_found views id v (wrote v p n o) at refl x).1 held))

pub raced_wrote : (begun : Begun) (words : List ℕ) (views : List View) (id : ℕ) (v : View) (p n : ℕ) (mine : StoreHistory) → Sits begun.shape v → v.owed ≡ None → v.histories ≡ mine ∷ [] → p < begun.shape.slots → IsWord begun.shape n
    → get_elem? views id ≡ some v → Raced begun words views → Raced begun (set words p n) (set views id (wrote v p n (get_or words p 0)))
raced_wrote begun words views id v p n mine sits free one lt fits at h = let o = get_or words p 0 in let w = wrote v p n o in record {
  sized = length-set words p n ∙ h.sized;
  bounded = bounded_wrote begun.shape words p n fits h.bounded;
  covered = covered_wrote begun.shape begun.pairs words views id v p n o sits.shape free lt at h.covered;
  weighed = weighed_step begun.shape views id v w at sits.weight sits.weight h.weighed;
  numbered = numbered_step begun.shape views id v w at (λ m. same_numbers m v w refl (tally_gained m p n v.histories)) h.numbered;
  stored = stored_wrote begun.shape begun.words words views id v p n o mine at one h.stored;
  balanced = balanced_wrote begun.shape begun.words words views id v p n mine (omega (arith, h.sized)) at one h.balanced;
  recorded = recorded_wrote begun.shape begun.words views id v p n o at h.recorded;
  kept = kept_stays begun.shape begun.pairs words (set words p n) views id v w at refl refl (same_bits begun.shape words p n (omega arith)) h.kept;
  claimed = claimed_same begun.shape begun.words words (set words p n) views (set views id w) (λ c. set_else words p (mark_word begun.shape c) n (mark_apart begun.shape p c lt))
      (held_same claims_of views id v w at refl) (held_same cleanings_of views id v w at refl) h.claimed;
  counted = counted_stays begun.shape begun.words words (set words p n) views id v w at refl refl (λ c. set_else words p (mark_word begun.shape c) n (mark_apart begun.shape p c lt)) h.counted;
  flagged = flags_stay begun.shape words (set words p n) views id v w at refl (λ c below m. sym (set_else words p (mark_word begun.shape c) n (mark_apart begun.shape p c lt)) ∙ m)
      (λ c. bit_as begun.shape words (set words p n) (flag begun.shape c) (same_bits begun.shape words p n (omega arith))) h.flagged;
}
