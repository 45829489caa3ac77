-- What a step leaves as it was: the weights and numbers of seats, stores, slots, pairs and claims.
use Rattle.std.specs.Prelude.{◌≡◌, ◌≢◌, ◌⊎◌, ◌+◌, ◌<◌, ◌≤◌}
use Rattle.g1_race_words.specs.{subst, ℕ, List, [], set, Some, None, sym, ap, ◌∙◌, inl, inr, ⊎_elim, arith, nat_lt, some, get_elem?, at_set, set_else, RaceShape, View, IsWord, BeganInto, MadeDirty, mark_word, Held, StoreHistory, histories_of, claims_of, cleanings_of, pairs_found, last_to, Bounded, IsBlank, as_number, tally, numbers, Weighed, Numbered, SlotsStored, StoredInto, Recorded, Claimed, MarksCounted, times, claims_at, cleanings_at, total}
use Rattle.g1_race_words.proofs.Plain.{total_same, each_set, SameHeld, held_same, total_set}
use Rattle.g1_race_words.proofs.CoverStores.{mark_apart}

-- the weight, at a step of one party

pub weighed_step : (k : RaceShape) (views : List View) (id : ℕ) (v w : View) → get_elem? views id ≡ some v → v.weight ≡ 1 → w.weight ≡ 1 → Weighed k views → Weighed k (set views id w)
weighed_step k views id v w at a b h = (
  let e = total_set (λ u. u.weight) views id v w at in let t = h.0 in omega arith,
  each_set views id w (λ (u : View). u.weight ≡ 0 → IsBlank u) (λ seat u there ne. h.1 seat u there) (λ none. absurd (omega (arith, b, none))),
)

-- the numbers, at a step that leaves a view's numbers as they are, or takes some away

pub numbered_step : (k : RaceShape) (views : List View) (id : ℕ) (v w : View) → get_elem? views id ≡ some v → ((m : ℕ) → numbers m w ≤ numbers m v) → Numbered k views → Numbered k (set views id w)
numbered_step k views id v w at le h m = let a = total_set (numbers m) views id v w at in let b = le m in let t = h m in omega arith

pub same_numbers : (m : ℕ) (v w : View) → v.spare ≡ w.spare → tally m w.histories ≡ tally m v.histories → numbers m w ≤ numbers m v
same_numbers m v w spare e = let f : numbers m w ≡ numbers m v = λ i. as_number (nat_lt m (sym spare i)) + e i in omega (arith, f)

pub numbers_stay : (k : RaceShape) (views : List View) (id : ℕ) (v w : View) → get_elem? views id ≡ some v → v.spare ≡ w.spare → v.histories ≡ w.histories → Numbered k views → Numbered k (set views id w)
numbers_stay k views id v w at spare same = numbered_step k views id v w at (λ m. same_numbers m v w spare (ap (tally m) (sym same)))

-- the stores, where no racer stores

abbrev pub SameSlots : RaceShape → List ℕ → List ℕ → Type 0
SameSlots k words new = (p n : ℕ) → p < k.slots → get_elem? new p ≡ some n → get_elem? words p ≡ some n

pub stored_same : (k : RaceShape) (began : List ℕ) (words new : List ℕ) (views after : List View) → SameSlots k words new → ((h : StoreHistory) → Held histories_of views h → Held histories_of after h)
    → ((h : StoreHistory) → Held histories_of after h → Held histories_of views h ⊎ (h.1 ≡ [])) → SlotsStored k began words views → SlotsStored k began new after
stored_same k began words new views after slots on back h p n lt at = ⊎_elim
    (λ (x : (h : StoreHistory) × Held histories_of views h × (last_to p h.1 ≡ Some n)). inl (x.0, on x.0 x.1, x.2))
    (λ (x : (get_elem? began p ≡ some n) × ((h : StoreHistory) → Held histories_of views h → last_to p h.1 ≡ None)). inr (x.0, λ g b. ⊎_elim (λ (was : Held histories_of views g). x.1 g was) (λ (e : g.1 ≡ []). ap (last_to p) e) (back g b)))
    (h p n lt (slots p n lt at))

pub same_slots_at_mark : (k : RaceShape) (words : List ℕ) (c n : ℕ) → SameSlots k words (set words (mark_word k c) n)
same_slots_at_mark k words c n p m lt at = sym (set_else words (mark_word k c) p n (λ x. mark_apart k p c lt (sym x))) ∙ at

pub same_slots : (k : RaceShape) (words : List ℕ) → SameSlots k words words
same_slots k words p n lt at = at

-- the words of the slots

pub bounded_same : (k : RaceShape) (words new : List ℕ) → SameSlots k words new → Bounded k words → Bounded k new
bounded_same k words new slots h p n lt at = h p n lt (slots p n lt at)

pub bounded_wrote : (k : RaceShape) (words : List ℕ) (p n : ℕ) → IsWord k n → Bounded k words → Bounded k (set words p n)
bounded_wrote k words p n fits h q m lt at = ⊎_elim
    (λ (x : (q ≡ p) × (n ≡ m)). subst (IsWord k) x.1 fits)
    (λ (x : (q ≢ p) × (get_elem? words q ≡ some m)). h q m lt x.1)
    (at_set words p q n m at)

-- the pairs, where no racer stores and no pair is recorded

pub into_same : (k : RaceShape) (views after : List View) → ((h : StoreHistory) → Held histories_of views h → Held histories_of after h) → (x : ℕ × ℕ) → StoredInto k views x → StoredInto k after x
into_same k views after on x s = (s.0, s.1, s.2, on s.0 s.3, s.4, s.5, s.6)

pub still_into : (k : RaceShape) (began : List ℕ) (views after : List View) → ((h : StoreHistory) → Held histories_of views h → Held histories_of after h) → (x : ℕ × ℕ) → StoredInto k views x ⊎ BeganInto k began x → StoredInto k after x ⊎ BeganInto k began x
still_into k began views after on x (inl s) = inl (into_same k views after on x s)
still_into k began views after on x (inr i) = inr i

pub recorded_same : (k : RaceShape) (began : List ℕ) (views after : List View) → ((h : StoreHistory) → Held histories_of views h → Held histories_of after h) → SameHeld pairs_found views after → Recorded k began views → Recorded k began after
recorded_same k began views after on pairs h x at = still_into k began views after on x (h x ((pairs x).1 at))

-- the claims, where no mark changes

abbrev pub Claim : RaceShape → List ℕ → List ℕ → List View → ℕ → Type 0
Claim k began words views c = ((get_elem? words (mark_word k c) ≡ some 1) × MadeDirty k began views c)
    ⊎ ((get_elem? words (mark_word k c) ≡ some 0) × (Held cleanings_of views c ⊎ (MadeDirty k began views c → ⊥)))

pub made_on : (k : RaceShape) (began : List ℕ) (views after : List View) (c : ℕ) → (Held claims_of views c → Held claims_of after c) → MadeDirty k began views c → MadeDirty k began after c
made_on k began views after c on (inl a) = inl (on a)
made_on k began views after c on (inr m) = inr m

pub claim_same : (k : RaceShape) (began words new : List ℕ) (views after : List View) (c : ℕ) → get_elem? new (mark_word k c) ≡ get_elem? words (mark_word k c)
    → (Held claims_of views c → Held claims_of after c) → (Held claims_of after c → Held claims_of views c) → (Held cleanings_of views c → Held cleanings_of after c) → Claim k began words views c → Claim k began new after c
claim_same k began words new views after c e on back cleans h = ⊎_elim
    (λ (x : (get_elem? words (mark_word k c) ≡ some 1) × MadeDirty k began views c). inl (e ∙ x.0, made_on k began views after c on x.1))
    (λ (x : (get_elem? words (mark_word k c) ≡ some 0) × (Held cleanings_of views c ⊎ (MadeDirty k began views c → ⊥))). inr (
      e ∙ x.0,
      ⊎_elim (λ (y : Held cleanings_of views c). inl (cleans y)) (λ (y : MadeDirty k began views c → ⊥). inr (λ z. y (made_on k began after views c back z))) x.1,
    ))
    h

pub claimed_same : (k : RaceShape) (began : List ℕ) (words new : List ℕ) (views after : List View) → ((c : ℕ) → get_elem? new (mark_word k c) ≡ get_elem? words (mark_word k c))
    → SameHeld claims_of views after → SameHeld cleanings_of views after → Claimed k began words views → Claimed k began new after
claimed_same k began words new views after e claims cleans h c lt = claim_same k began words new views after c (e c) (claims c).0 (claims c).1 (cleans c).0 (h c lt)

-- the steps that leave the stores as they are

pub stores_stay : (k : RaceShape) (began : List ℕ) (words new : List ℕ) (views : List View) (id : ℕ) (v w : View) → get_elem? views id ≡ some v → v.histories ≡ w.histories → SameSlots k words new → SlotsStored k began words views → SlotsStored k began new (set views id w)
stores_stay k began words new views id v w at same slots = let held = held_same histories_of views id v w at same in
    stored_same k began words new views (set views id w) slots (λ h. (held h).0) (λ h b. inl ((held h).1 b))

pub pairs_stay : (k : RaceShape) (began : List ℕ) (views : List View) (id : ℕ) (v w : View) → get_elem? views id ≡ some v → v.histories ≡ w.histories → v.pairs ≡ w.pairs → Recorded k began views → Recorded k began (set views id w)
pairs_stay k began views id v w at same pairs = recorded_same k began views (set views id w) (λ h. (held_same histories_of views id v w at same h).0) (held_same pairs_found views id v w at pairs)

-- the counts, where the seats' claims and cleanings add up to what they did, and no mark changes

pub counted_same : (k : RaceShape) (began words new : List ℕ) (views after : List View) → ((c : ℕ) → get_elem? new (mark_word k c) ≡ get_elem? words (mark_word k c)) → ((c : ℕ) → total (claims_at c) after ≡ total (claims_at c) views)
    → ((c : ℕ) → total (cleanings_at c) after ≡ total (cleanings_at c) views) → MarksCounted k began words views → MarksCounted k began new after
counted_same k began words new views after same claims cleans h c first now lt was is =
    let t = h c first now lt was (sym (same c) ∙ is) in omega (arith, claims c, cleans c, t)

pub counted_stays : (k : RaceShape) (began words new : List ℕ) (views : List View) (id : ℕ) (v w : View) → get_elem? views id ≡ some v → v.claims ≡ w.claims → v.cleanings ≡ w.cleanings
    → ((c : ℕ) → get_elem? new (mark_word k c) ≡ get_elem? words (mark_word k c)) → MarksCounted k began words views → MarksCounted k began new (set views id w)
counted_stays k began words new views id v w at claims cleans same = counted_same k began words new views (set views id w) same (λ c. total_same (claims_at c) views id v w at (ap (times c) claims)) (λ c. total_same (cleanings_at c) views id v w at (ap (times c) cleans))
