-- A racer looks at a mark and dirties it, and a sweeper cleans it.
use Rattle.std.specs.Prelude.{◌≡◌, ◌≢◌, ◌⊎◌, ◌+◌, ◌<◌, ◌∷◌}
use Rattle.g1_race_words.specs.{ℕ, cond, eqb, List, length, set, get_or, Bool, true, false, Some, refl, sym, ◌∙◌, inl, inr, ⊎_elim, arith, length-set, eq-eqb, some, some-injective, ℕ_discrete, get_elem?, set_here, set_else, RaceShape, View, Begun, MadeDirty, mark_word, In, Held, claims_of, cleanings_of, claims_at, cleanings_at, as_number, times, total, Claimed, MarksCounted, Raced, looked, owed_card, dirtied, Sits, flag, cleaned, Covered, Flagged}
use Rattle.g1_race_words.proofs.Plain.{in_cond, in_cond_back, in_cond_here, put_here, read_at, read_is, total_set, held_on, held_same, some_same}
use Rattle.g1_race_words.proofs.CoverStores.{covered_looked, covered_dirtied}
use Rattle.g1_race_words.proofs.PairBits.{same_bits, bit_as}
use Rattle.g1_race_words.proofs.Flags.{flags_stay, none_dirtied}
use Rattle.g1_race_words.proofs.Raising.{flagged_dirtied}
use Rattle.g1_race_words.proofs.Keeping.{kept_stays}
use Rattle.g1_race_words.proofs.Tallies.{same_is}
use Rattle.g1_race_words.proofs.Balance.{raced_step}
use Rattle.g1_race_words.proofs.Unchanged.{same_slots_at_mark, same_slots, Claim, made_on, claim_same, claimed_same, counted_stays, pairs_stay}
use Rattle.g1_race_words.proofs.CoverSweeps.{covered_cleaned}

-- a racer looks at the mark of the card that it owes

pub raced_looked : (begun : Begun) (words : List ℕ) (views : List View) (id : ℕ) (v : View) (c : ℕ) → Sits begun.shape v → v.owed ≡ Some c → c < begun.shape.cards
    → get_elem? views id ≡ some v → Raced begun words views → Raced begun words (set views id (looked v (get_or words (mark_word begun.shape c) 0)))
raced_looked begun words views id v c sits owes lt at h = let w = looked v (get_or words (mark_word begun.shape c) 0) in raced_step begun words words views id v w at sits.weight (refl, refl, refl, refl) refl (same_slots begun.shape words)
    (covered_looked begun.shape begun.pairs words views id v c owes (omega (arith, h.sized)) at h.covered)
    (pairs_stay begun.shape begun.words views id v w at refl refl h.recorded)
    (kept_stays begun.shape begun.pairs words words views id v w at refl refl (λ x. refl) h.kept)
    (claimed_same begun.shape begun.words words words views (set views id w) (λ c. refl) (held_same claims_of views id v w at refl) (held_same cleanings_of views id v w at refl) h.claimed)
    (counted_stays begun.shape begun.words words words views id v w at refl refl (λ c. refl) h.counted)
    (flags_stay begun.shape words words views id v w at refl (λ d below m. m) (λ d b. b) h.flagged) h

-- how often a card is in a list that gains it, or doesn't

times_here : (d c : ℕ) (b : Bool) (l : List ℕ) → d ≡ c → times d (cond b (c ∷ l) l) ≡ as_number b + times d l
times_here d c true l e = omega (arith, e, same_is d c)
times_here d c false l e = omega arith

times_other : (d c : ℕ) (b : Bool) (l : List ℕ) → d ≢ c → times d (cond b (c ∷ l) l) ≡ times d l
times_other d c true l ne = omega (arith, ne, same_is d c)
times_other d c false l ne = refl

-- the mark of a card is swapped to m, and only that card may come to a seat's claims and cleanings

module _ (begun : Begun) (words : List ℕ) (views : List View) (id : ℕ) (v w : View) (c m : ℕ) (lt : c < begun.shape.cards) (at : get_elem? views id ≡ some v) (h : Raced begun words views) where
  abbrev k : RaceShape
  k = begun.shape

  abbrev new : List ℕ
  new = set words (mark_word k c) m

  abbrev after : List View
  after = set views id w

  abbrev now : ℕ
  now = get_or words (mark_word k c) 0

  short : mark_word k c < length words
  short = omega (arith, h.sized)

  marked : get_elem? new (mark_word k c) ≡ some m
  marked = set_here words (mark_word k c) m short

  -- each mark is 0 or 1
  mark_is : (now ≡ 1) ⊎ (now ≡ 0)
  mark_is = ⊎_elim
      (λ (x : (get_elem? words (mark_word k c) ≡ some 1) × MadeDirty k begun.words views c). inl (read_is words (mark_word k c) 1 x.0))
      (λ (x : (get_elem? words (mark_word k c) ≡ some 0) × (Held cleanings_of views c ⊎ (MadeDirty k begun.words views c → ⊥))). inr (read_is words (mark_word k c) 0 x.0))
      (h.claimed c lt)

  claimed_swapped : ((d : ℕ) → In v.claims d → In w.claims d) → ((d : ℕ) → d ≢ c → In w.claims d → In v.claims d) → ((d : ℕ) → In v.cleanings d → In w.cleanings d) → (Claim k begun.words words views c → Claim k begun.words new after c) → Claimed k begun.words new after
  claimed_swapped on back cleans here d below = pick (ℕ_discrete d c)
    where
      pick : Dec (d ≡ c) → Claim k begun.words new after d
      pick (yes e) = rw e (here (h.claimed c lt))
      pick (no ne) = let same = some_same (λ u. In u.claims d) views id v w at (on d) (back d ne) in
          claim_same k begun.words words new views after d (set_else words (mark_word k c) (mark_word k d) m (λ x. ne (omega arith))) same.0 same.1 (held_on cleanings_of views id v w at cleans d) (h.claimed d below)

  counted_swapped : ((d : ℕ) → d ≡ c → now + claims_at d w + cleanings_at d v ≡ m + claims_at d v + cleanings_at d w) → ((d : ℕ) → d ≢ c → (claims_at d w ≡ claims_at d v) × (cleanings_at d w ≡ cleanings_at d v)) → MarksCounted k begun.words new after
  counted_swapped here other d first last below was is = let a = total_set (claims_at d) views id v w at in let b = total_set (cleanings_at d) views id v w at in pick a b (ℕ_discrete d c)
    where
      pick : total (claims_at d) after + claims_at d v ≡ total (claims_at d) views + claims_at d w → total (cleanings_at d) after + cleanings_at d v ≡ total (cleanings_at d) views + cleanings_at d w → Dec (d ≡ c) → total (claims_at d) after + first ≡ total (cleanings_at d) after + last
      pick a b (yes e) =
          let one : m ≡ last = some-injective m last (sym marked ∙ rw e at is) in
          let t = h.counted d first now below was (rw e (read_at words (mark_word k c) short)) in
          let g = here d e in omega (arith, a, b, one, t, g)
      pick a b (no ne) =
          let t = h.counted d first last below was (sym (set_else words (mark_word k c) (mark_word k d) m (λ x. ne (omega arith))) ∙ is) in
          let g = other d ne in omega (arith, a, b, t, g.0, g.1)

  raced_swapped : v.weight ≡ 1 → (w.weight ≡ v.weight) × (v.spare ≡ w.spare) × (v.histories ≡ w.histories) × (v.overwritten ≡ w.overwritten) → v.pairs ≡ w.pairs → v.held ≡ w.held
      → Covered k begun.pairs new after → Claimed k begun.words new after → MarksCounted k begun.words new after → Flagged k new after → Raced begun new after
  raced_swapped one stays pairs held covered claimed counted flagged = raced_step begun words new views id v w at one stays (length-set words (mark_word k c) m) (same_slots_at_mark k words c m) covered
      (pairs_stay k begun.words views id v w at stays.2 pairs h.recorded) (kept_stays k begun.pairs words new views id v w at pairs held (same_bits k words (mark_word k c) m (omega arith)) h.kept) claimed counted flagged h

-- a racer dirties the mark of the card that it owes

pub raced_dirtied : (begun : Begun) (words : List ℕ) (views : List View) (id : ℕ) (v : View) (c : ℕ) → Sits begun.shape v → v.owed ≡ Some c → v.flagged ≡ owed_card v.owed → c < begun.shape.cards
    → get_elem? views id ≡ some v → Raced begun words views → Raced begun (set words (mark_word begun.shape c) 1) (set views id (dirtied v c (get_or words (mark_word begun.shape c) 0)))
raced_dirtied begun words views id v c sits owes is lt at h = raced_swapped begun words views id v w c 1 lt at h sits.weight (refl, refl, refl, refl) refl refl
    (covered_dirtied k begun.pairs words views id v c n owes (omega (arith, h.sized)) at h.covered)
    (claimed_swapped begun words views id v w c 1 lt at h (λ d i. in_cond (eqb n 0) c d v.claims i)
    (λ d ne i. ⊎_elim (λ (e : (c ≡ d) × (eqb n 0 ≡ true)). absurd (ne (sym e.0))) (λ (j : In v.claims d). j) (in_cond_back (eqb n 0) c d v.claims i)) (λ d i. i) made)
    (counted_swapped begun words views id v w c 1 lt at h
    (λ d e. let a : claims_at d w ≡ as_number (eqb n 0) + claims_at d v = times_here d c (eqb n 0) v.claims e in let b = gains (mark_is begun words views id v w c 1 lt at h) in omega (arith, a, b)) (λ d ne. (times_other d c (eqb n 0) v.claims ne, refl)))
    (flagged_dirtied k words views id v c n owes is lt at h.flagged)
  where
    k : RaceShape
    k = begun.shape

    n : ℕ
    n = get_or words (mark_word k c) 0

    w : View
    w = dirtied v c n

    gains : (n ≡ 1) ⊎ (n ≡ 0) → n + as_number (eqb n 0) ≡ 1
    gains (inl e) = rw e refl
    gains (inr e) = rw e refl

    made : Claim k begun.words words views c → Claim k begun.words (set words (mark_word k c) 1) (set views id w) c
    made x = inl (
      marked begun words views id v w c 1 lt at h,
      ⊎_elim
          (λ (x : (get_elem? words (mark_word k c) ≡ some 1) × MadeDirty k begun.words views c). made_on k begun.words views (set views id w) c (held_on claims_of views id v w at (λ d i. in_cond (eqb n 0) c d v.claims i) c) x.1)
          (λ (x : (get_elem? words (mark_word k c) ≡ some 0) × (Held cleanings_of views c ⊎ (MadeDirty k begun.words views c → ⊥))). inl (id, w, put_here views id v w at, in_cond_here (eqb n 0) c v.claims (eq-eqb n 0 (read_is words (mark_word k c) 0 x.0))))
          x,
    )

-- a sweeper cleans a card

pub raced_cleaned : (begun : Begun) (words : List ℕ) (views : List View) (id : ℕ) (v : View) (c : ℕ) → Sits begun.shape v → 0 < begun.shape.size → v.next ≡ v.end → c < begun.shape.cards
    → get_elem? views id ≡ some v → Raced begun words views → Raced begun (set words (mark_word begun.shape c) 0) (set views id (cleaned v c (get_or words (mark_word begun.shape c) 0)))
raced_cleaned begun words views id v c sits pos done lt at h = raced_swapped begun words views id v w c 0 lt at h sits.weight (refl, refl, refl, refl) refl refl
    (covered_cleaned k begun.pairs words views id v c n sits.shape pos done at h.covered)
    (claimed_swapped begun words views id v w c 0 lt at h (λ d i. i) (λ d ne i. i) (λ d i. in_cond (eqb n 1) c d v.cleanings i) clean)
    (counted_swapped begun words views id v w c 0 lt at h
    (λ d e. let a : cleanings_at d w ≡ as_number (eqb n 1) + cleanings_at d v = times_here d c (eqb n 1) v.cleanings e in let b = gains (mark_is begun words views id v w c 0 lt at h) in omega (arith, a, b)) (λ d ne. (refl, times_other d c (eqb n 1) v.cleanings ne)))
    (flags_stay k words (set words (mark_word k c) 0) views id v w at refl (none_dirtied k words c (omega (arith, h.sized)))
    (λ d. bit_as k words (set words (mark_word k c) 0) (flag k d) (same_bits k words (mark_word k c) 0 (omega (arith, lt)))) h.flagged)
  where
    k : RaceShape
    k = begun.shape

    n : ℕ
    n = get_or words (mark_word k c) 0

    w : View
    w = cleaned v c n

    gains : (n ≡ 1) ⊎ (n ≡ 0) → as_number (eqb n 1) ≡ n
    gains (inl e) = rw e refl
    gains (inr e) = rw e refl

    clean : Claim k begun.words words views c → Claim k begun.words (set words (mark_word k c) 0) (set views id w) c
    clean x = inr (
      marked begun words views id v w c 0 lt at h,
      ⊎_elim
          (λ (x : (get_elem? words (mark_word k c) ≡ some 1) × MadeDirty k begun.words views c). inl (id, w, put_here views id v w at, in_cond_here (eqb n 1) c v.cleanings (eq-eqb n 1 (read_is words (mark_word k c) 1 x.0))))
          (λ (x : (get_elem? words (mark_word k c) ≡ some 0) × (Held cleanings_of views c ⊎ (MadeDirty k begun.words views c → ⊥))). ⊎_elim
          (λ (y : Held cleanings_of views c). inl (held_on cleanings_of views id v w at (λ d i. in_cond (eqb n 1) c d v.cleanings i) c y))
          (λ (y : MadeDirty k begun.words views c → ⊥). inr (λ z. y (made_on k begun.words (set views id w) views c (held_same claims_of views id v w at refl c).1 z))) x.1)
          x,
    )
