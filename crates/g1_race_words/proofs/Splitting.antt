-- A seat is split off, takes in another, or comes.
use Rattle.std.specs.Prelude.{◌≡◌, ◌⊎◌, ◌+◌, ◌<◌, ◌∷◌, ◌++◌, ◌≤◌}
use Rattle.g1_race_words.specs.{ℕ, List, [], set, refl, sym, ap, ◌∙◌, inl, inr, ⊎_elim, arith, append-nil, some, get_elem?, RaceShape, View, Begun, In, Held, AnswersFor, StoreHistory, histories_of, claims_of, cleanings_of, pairs_found, held_of, flagged_of, Covered, AtRest, IsBlank, numbers, Weighed, Numbered, Raced, times, claims_at, cleanings_at, sum_at, stored_sum, overwritten_sum, total, after_split, both}
use Rattle.g1_race_words.proofs.Plain.{each_set, each_snoc, some_longer, some_shorter, held_more, held_same, held_split, held_join, total_set, total_snoc}
use Rattle.g1_race_words.proofs.Tallies.{tally_append, times_append, numbers_none}
use Rattle.g1_race_words.proofs.Cover.{covered_moves}
use Rattle.g1_race_words.proofs.CoverSweeps.{covered_split, covered_join}
use Rattle.g1_race_words.proofs.Keeping.{kept_same}
use Rattle.g1_race_words.proofs.Flags.{flags_moved}
use Rattle.g1_race_words.proofs.Balance.{sum_both, sum_in_both, sum_in, none_in, balance_same}
use Rattle.g1_race_words.proofs.Unchanged.{stored_same, same_slots, recorded_same, claimed_same, counted_same}

-- a party's seat is split off from a seat that answers for nothing

held_split_blank : (views : List View) (id : ℕ) (v left right : View) → get_elem? views id ≡ some v → v.histories ≡ left.histories → ((h : StoreHistory) → In right.histories h → h.1 ≡ [])
    → (h : StoreHistory) → (Held histories_of views h → Held histories_of (set views id left ++ right ∷ []) h) × (Held histories_of (set views id left ++ right ∷ []) h → Held histories_of views h ⊎ (h.1 ≡ []))
held_split_blank views id v left right at e none h = let same = held_same histories_of views id v left at e h in
    (λ x. some_longer (λ u. In u.histories h) (set views id left) right (same.0 x), λ x. ⊎_elim (λ (a : Held histories_of (set views id left) h). inl (same.1 a)) (λ (i : In right.histories h). inr (none h i)) (some_shorter (λ u. In u.histories h) (set views id left) right x))

weighed_split : (k : RaceShape) (views : List View) (id : ℕ) (v right : View) → get_elem? views id ≡ some v → IsBlank v → 0 < v.weight → right.weight ≡ 1 → Weighed k views → Weighed k (set views id (after_split v) ++ right ∷ [])
weighed_split k views id v right at still heavy one h = let left = after_split v in (
  let a = total_set (λ u. u.weight) views id v left at in let b = total_snoc (λ u. u.weight) (set views id left) right in let t = h.0 in omega arith,
  each_snoc (set views id left) right (λ (u : View). u.weight ≡ 0 → IsBlank u) (each_set views id left (λ (u : View). u.weight ≡ 0 → IsBlank u) (λ seat u there ne. h.1 seat u there) (λ none. still)) (λ none. absurd (omega (arith, one, none))),
)

numbered_split : (k : RaceShape) (views : List View) (id : ℕ) (v left right : View) → get_elem? views id ≡ some v → ((m : ℕ) → numbers m left + numbers m right ≤ numbers m v) → Numbered k views → Numbered k (set views id left ++ right ∷ [])
numbered_split k views id v left right at fewer h m = let a = total_set (numbers m) views id v left at in let b = total_snoc (numbers m) (set views id left) right in let c = fewer m in let t = h m in omega arith

-- what the seats have adds up to what it was

total_split : (f : View → ℕ) (views : List View) (id : ℕ) (v left right : View) → get_elem? views id ≡ some v → f left ≡ f v → f right ≡ 0 → total f (set views id left ++ right ∷ []) ≡ total f views
total_split f views id v left right at same none = let a = total_set f views id v left at in let b = total_snoc f (set views id left) right in omega (arith, a, b, same, none)

total_join : (f : View → ℕ) (views : List View) (id : ℕ) (v w : View) (other : ℕ) (u spent : View) → get_elem? views id ≡ some v → get_elem? (set views id w) other ≡ some u → f w ≡ f v + f u → f spent ≡ 0
    → total f (set (set views id w) other spent) ≡ total f views
total_join f views id v w other u spent at there adds none = let a = total_set f views id v w at in let b = total_set f (set views id w) other u spent there in omega (arith, a, b, adds, none)

pub raced_split : (begun : Begun) (words : List ℕ) (views : List View) (id : ℕ) (v right : View) → IsBlank v → 0 < v.weight → right.weight ≡ 1 → ((m : ℕ) → numbers m (after_split v) + numbers m right ≤ numbers m v) → ((h : StoreHistory) → In right.histories h → h.1 ≡ []) → right.claims ≡ [] → right.cleanings ≡ [] → right.pairs ≡ [] → right.overwritten ≡ [] → right.held ≡ [] → right.flagged ≡ []
    → get_elem? views id ≡ some v → Raced begun words views → Raced begun words (set views id (after_split v) ++ right ∷ [])
raced_split begun words views id v right still heavy one fewer fresh claims cleanings pairs over held_none flag_none at h = let after = set views id (after_split v) ++ right ∷ [] in let held = held_split_blank views id v (after_split v) right at refl fresh in record {
  sized = h.sized;
  bounded = h.bounded;
  covered = covered_split begun.shape begun.pairs words views id v (after_split v) right at (λ q m a. a) h.covered;
  weighed = weighed_split begun.shape views id v right at still heavy one h.weighed;
  numbered = numbered_split begun.shape views id v (after_split v) right at fewer h.numbered;
  stored = stored_same begun.shape begun.words words words views after (same_slots begun.shape words) (λ g. (held g).0) (λ g. (held g).1) h.stored;
  balanced = balance_same begun.shape begun.words words words views after (same_slots begun.shape words) (λ f q. total_split (stored_sum f q) views id v (after_split v) right at refl (none_in f q right.histories fresh))
      (λ f q. total_split (overwritten_sum f q) views id v (after_split v) right at refl (ap (sum_at f q) over)) h.balanced;
  recorded = recorded_same begun.shape begun.words views after (λ g. (held g).0) (held_split pairs_found views id v (after_split v) right at refl pairs) h.recorded;
  kept = kept_same begun.shape begun.pairs words words views after (λ x. refl) (held_split pairs_found views id v (after_split v) right at refl pairs) (held_split held_of views id v (after_split v) right at refl held_none) h.kept;
  claimed = claimed_same begun.shape begun.words words words views after (λ c. refl) (held_split claims_of views id v (after_split v) right at refl claims) (held_split cleanings_of views id v (after_split v) right at refl cleanings) h.claimed;
  counted = counted_same begun.shape begun.words words words views after (λ c. refl) (λ c. total_split (claims_at c) views id v (after_split v) right at refl (ap (times c) claims))
      (λ c. total_split (cleanings_at c) views id v (after_split v) right at refl (ap (times c) cleanings)) h.counted;
  flagged = flags_moved begun.shape words words views after (λ c lt m. m) (λ c b. b) (λ c. (held_split flagged_of views id v (after_split v) right at refl flag_none c).1) h.flagged;
}

-- a seat takes in a party's seat that is at rest

weighed_join : (k : RaceShape) (views : List View) (id : ℕ) (v : View) (other : ℕ) (u spent : View) → u.weight ≡ 1 → IsBlank spent → spent.weight ≡ 0
    → get_elem? views id ≡ some v → ¬ (other ≡ id) → get_elem? (set views id (both v u)) other ≡ some u → Weighed k views → Weighed k (set (set views id (both v u)) other spent)
weighed_join k views id v other u spent one still none at apart there h = let w = both v u in (
  let a = total_set (λ u. u.weight) views id v w at in let b = total_set (λ u. u.weight) (set views id w) other u spent there in let t = h.0 in omega arith,
  each_set (set views id w) other spent (λ (u : View). u.weight ≡ 0 → IsBlank u) (λ seat x is ne. each_set views id w (λ (u : View). u.weight ≡ 0 → IsBlank u) (λ seat x is ne. h.1 seat x is) (λ light. absurd (omega (arith, one, light))) seat x is) (λ light. still),
)

numbered_join : (k : RaceShape) (views : List View) (id : ℕ) (v : View) (other : ℕ) (u spent : View) → IsBlank spent → spent.spare ≡ 0
    → get_elem? views id ≡ some v → get_elem? (set views id (both v u)) other ≡ some u → Numbered k views → Numbered k (set (set views id (both v u)) other spent)
numbered_join k views id v other u spent still none at there h m =
    let a = total_set (numbers m) views id v (both v u) at in
    let b = total_set (numbers m) (set views id (both v u)) other u spent there in
    let c = tally_append m v.histories u.histories in
    let d = numbers_none m spent still.1 none in
    let t = h m in omega arith

pub raced_join : (begun : Begun) (words : List ℕ) (views : List View) (id : ℕ) (v : View) (other : ℕ) (u spent : View) → u.weight ≡ 1 → AtRest u → IsBlank spent → spent.weight ≡ 0 → spent.spare ≡ 0
    → get_elem? views id ≡ some v → ¬ (other ≡ id) → get_elem? (set views id (both v u)) other ≡ some u → Raced begun words views → Raced begun words (set (set views id (both v u)) other spent)
raced_join begun words views id v other u spent one rest still none given at apart there h = let w = both v u in let after = set (set views id w) other spent in let held = held_join histories_of views id v u w spent other at apart there refl still.1 in record {
  sized = h.sized;
  bounded = h.bounded;
  covered = covered_join begun.shape begun.pairs words views id v other u spent rest.0 rest.1 at apart there h.covered;
  weighed = weighed_join begun.shape views id v other u spent one still none at apart there h.weighed;
  numbered = numbered_join begun.shape views id v other u spent still given at there h.numbered;
  stored = stored_same begun.shape begun.words words words views after (same_slots begun.shape words) (λ g. (held g).0) (λ g b. inl ((held g).1 b)) h.stored;
  balanced = balance_same begun.shape begun.words words words views after (same_slots begun.shape words) (λ f q. total_join (stored_sum f q) views id v w other u spent at there (sum_in_both f q v.histories u.histories) (ap (sum_in f q) still.1))
      (λ f q. total_join (overwritten_sum f q) views id v w other u spent at there (sum_both f q v.overwritten u.overwritten) (ap (sum_at f q) still.5)) h.balanced;
  recorded = recorded_same begun.shape begun.words views after (λ g. (held g).0) (held_join pairs_found views id v u w spent other at apart there refl still.4) h.recorded;
  kept = kept_same begun.shape begun.pairs words words views after (λ x. refl) (held_join pairs_found views id v u w spent other at apart there refl still.4)
      (held_join held_of views id v u w spent other at apart there (sym (ap (λ (l : List (ℕ × ℕ)). v.held ++ l) rest.2 ∙ append-nil v.held)) still.0.2) h.kept;
  claimed = claimed_same begun.shape begun.words words words views after (λ c. refl) (held_join claims_of views id v u w spent other at apart there refl still.2) (held_join cleanings_of views id v u w spent other at apart there refl still.3) h.claimed;
  counted = counted_same begun.shape begun.words words words views after (λ c. refl) (λ c. total_join (claims_at c) views id v w other u spent at there (times_append c v.claims u.claims) (ap (times c) still.2))
      (λ c. total_join (cleanings_at c) views id v w other u spent at there (times_append c v.cleanings u.cleanings) (ap (times c) still.3)) h.counted;
  flagged = flags_moved begun.shape words words views after (λ c lt m. m) (λ c b. b)
      (λ c. (held_join flagged_of views id v u w spent other at apart there (sym (ap (λ (l : List ℕ). v.flagged ++ l) rest.3 ∙ append-nil v.flagged)) still.0.3 c).1) h.flagged;
}

-- a seat comes that answers for nothing

total_more : (f : View → ℕ) (views : List View) (w : View) → f w ≡ 0 → total f (views ++ w ∷ []) ≡ total f views
total_more f views w none = let a = total_snoc f views w in omega (arith, a, none)

covered_more : (k : RaceShape) (known : List (ℕ × ℕ)) (words : List ℕ) (views : List View) (w : View) → Covered k known words views → Covered k known words (views ++ w ∷ [])
covered_more k known words views w h = covered_moves k known words words views (views ++ w ∷ []) h
    (λ p n lt at cr. inr (at, (λ m. inl m), λ s. inr (some_longer (λ u. AnswersFor k u p n) views w s)))

pub raced_enter : (begun : Begun) (words : List ℕ) (views : List View) (w : View) → IsBlank w → w.weight ≡ 0 → w.spare ≡ 0 → Raced begun words views → Raced begun words (views ++ w ∷ [])
raced_enter begun words views w still light none h = let after = views ++ w ∷ [] in let held = held_more histories_of views w still.1 in record {
  sized = h.sized;
  bounded = h.bounded;
  covered = covered_more begun.shape begun.pairs words views w h.covered;
  weighed = (
    let e = total_snoc (λ u. u.weight) views w in let t = h.weighed.0 in omega arith,
    each_snoc views w (λ (u : View). u.weight ≡ 0 → IsBlank u) h.weighed.1 (λ none. still),
  );
  numbered = λ m.
      let a = total_snoc (numbers m) views w in
      let d = numbers_none m w still.1 none in
      let t = h.numbered m in omega (arith, a, d, t);
  stored = stored_same begun.shape begun.words words words views after (same_slots begun.shape words) (λ g. (held g).0) (λ g b. inl ((held g).1 b)) h.stored;
  balanced = balance_same begun.shape begun.words words words views after (same_slots begun.shape words) (λ f q. total_more (stored_sum f q) views w (ap (sum_in f q) still.1)) (λ f q. total_more (overwritten_sum f q) views w (ap (sum_at f q) still.5)) h.balanced;
  recorded = recorded_same begun.shape begun.words views after (λ g. (held g).0) (held_more pairs_found views w still.4) h.recorded;
  kept = kept_same begun.shape begun.pairs words words views after (λ x. refl) (held_more pairs_found views w still.4) (held_more held_of views w still.0.2) h.kept;
  claimed = claimed_same begun.shape begun.words words words views after (λ c. refl) (held_more claims_of views w still.2) (held_more cleanings_of views w still.3) h.claimed;
  counted = counted_same begun.shape begun.words words words views after (λ c. refl) (λ c. total_more (claims_at c) views w (ap (times c) still.2)) (λ c. total_more (cleanings_at c) views w (ap (times c) still.3)) h.counted;
  flagged = flags_moved begun.shape words words views after (λ c lt m. m) (λ c b. b) (λ c. (held_more flagged_of views w still.0.3 c).1) h.flagged;
}
