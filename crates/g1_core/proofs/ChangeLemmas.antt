-- A list that is mapped and counted by place, once one place is written; and the changes of a redirect: what
-- one is, and what it makes of a table.
use Rattle.std.specs.Prelude.{◌≡◌, ◌<◌, ◌≤◌, ◌+◌, ◌∷◌, ◌≢◌, ◌⊎◌, ◌*◌}
use Rattle.g1_core.specs.{IsDistinct-tail, ◌∙◌, ℕ, zero, suc, Bool, true, false, cond, List, [], length, get_or, refl, sym, ap, arith, map, count_by, sum_by, enumerate_from, get_or-map, length-map, length-enumerate_from, All, list_set, ext_get_or, map-set, set-get_or, inl, inr, Option, Some, None, subst, Contains, nat_eq, IfSome, IsDistinct, cons_option, cases_lt, eqb-true, and_parts, true≢false, false_from_ne_true, get_or-set_same, get_or-set_other, get_or_past, All-set, Shape, slot_count, same_offset, same_offset_region, Change, IsCore, enters, moved_target, change_at, changes_of, changed, Cells, Ring, Pairs, AreRead, Contains-tail}
use Rattle.std.proofs.lemmas.List.Sums.{sum_by-le, sum_by-set}
use Rattle.g1_core.proofs.SetLemmas.{at_its_place, front_apart}

enumerate_set : {X : Type 0} (n : ℕ) (xs : List X) (k : ℕ) (v : X) → enumerate_from n (list_set xs k v) ≡ list_set (enumerate_from n xs) k (n + k, v)
enumerate_set n [] k v = refl
enumerate_set {X} n (x ∷ xs) zero v = let first : n ≡ n + 0 = omega arith in ap (λ (i : ℕ). (i, v) ∷ enumerate_from (n + 1) xs) first
enumerate_set {X} n (x ∷ xs) (suc k) v =
    let next : n + 1 + k ≡ n + suc k = omega arith in
    ap (λ (ys : List (ℕ × X)). (n, x) ∷ ys) (enumerate_set (n + 1) xs k v ∙ ap (λ (i : ℕ). list_set (enumerate_from (n + 1) xs) k (i, v)) next)

module _ {X : Type 0} (xs : List X) (d : X) where
  written_at : (k : ℕ) (v : X) → enumerate_from 0 (list_set xs k v) ≡ list_set (enumerate_from 0 xs) k (k, v)
  written_at k v = enumerate_set 0 xs k v ∙ ap (λ (i : ℕ). list_set (enumerate_from 0 xs) k (i, v)) (let first : 0 + k ≡ k = omega arith in first)

  module _ {Y : Type 0} (f : ℕ × X → Y) (e : Y) where
    pub map_at : (k : ℕ) → k < length xs → get_or (map f (enumerate_from 0 xs)) k e ≡ f (k, get_or xs k d)
    map_at k below = get_or-map f (enumerate_from 0 xs) k (k, d) e (omega (arith, length-enumerate_from 0 xs)) ∙ ap f (at_its_place xs d k (k, d) below)

    pub map_set : (k : ℕ) (v : X) → k < length xs → f (k, v) ≡ f (k, get_or xs k d) → map f (enumerate_from 0 (list_set xs k v)) ≡ map f (enumerate_from 0 xs)
    map_set k v below same =
        ap (map f) (written_at k v) ∙ map-set f (enumerate_from 0 xs) k (k, v)
        ∙ ap (list_set (map f (enumerate_from 0 xs)) k) (same ∙ sym (map_at k below)) ∙ set-get_or (map f (enumerate_from 0 xs)) k e

  -- nothing is to change
  pub map_same : (f : ℕ × X → X) → ((k : ℕ) → k < length xs → f (k, get_or xs k d) ≡ get_or xs k d) → map f (enumerate_from 0 xs) ≡ xs
  map_same f each = ext_get_or d _ _ (length-map (enumerate_from 0 xs) f ∙ length-enumerate_from 0 xs) (λ k lt. let below : k < length xs = omega (arith, length-map (enumerate_from 0 xs) f, length-enumerate_from 0 xs) in map_at f d k below ∙ each k below)

  module _ (p : ℕ × X → Bool) where
    abbrev one_if : ℕ × X → ℕ
    one_if q = cond (p q) 1 0

    -- one less is counted
    pub count_set : (k : ℕ) (v : X) → k < length xs → p (k, v) ≡ false → p (k, get_or xs k d) ≡ true → count_by p (enumerate_from 0 (list_set xs k v)) + 1 ≡ count_by p (enumerate_from 0 xs)
    count_set k v below gone there =
        let both : sum_by one_if (list_set (enumerate_from 0 xs) k (k, v)) + one_if (get_or (enumerate_from 0 xs) k (k, d)) ≡ sum_by one_if (enumerate_from 0 xs) + one_if (k, v) = sum_by-set one_if (enumerate_from 0 xs) k (k, v) (k, d) (omega (arith, length-enumerate_from 0 xs)) in
        let one : one_if (get_or (enumerate_from 0 xs) k (k, d)) ≡ 1 = ap one_if (at_its_place xs d k (k, d) below) ∙ ap (λ b. cond b 1 0) there in
        let none : one_if (k, v) ≡ 0 = ap (λ b. cond b 1 0) gone in
        let here : count_by p (enumerate_from 0 (list_set xs k v)) ≡ sum_by one_if (list_set (enumerate_from 0 xs) k (k, v)) = ap (count_by p) (written_at k v) in
        omega arith

    pub count_none : ((k : ℕ) → k < length xs → p (k, get_or xs k d) ≡ false) → count_by p (enumerate_from 0 xs) ≡ 0
    count_none each =
        let none : All (λ q. one_if q ≤ 0) (enumerate_from 0 xs) = λ k q lt.
        let below : k < length xs = omega (arith, length-enumerate_from 0 xs) in
        let is : one_if (get_or (enumerate_from 0 xs) k q) ≡ 0 = ap one_if (at_its_place xs d k q below) ∙ ap (λ b. cond b 1 0) (each k below) in
        omega arith in
        omega (arith, sum_by-le one_if 0 (enumerate_from 0 xs) none)

module _ (l : Shape) (from to : ℕ) where
  -- what becomes of a slot: it is not changed, or it is
  pub record IsLeft (slot : ℕ) (o : Option ℕ) : Type 0 where
    pub none : change_at l from to slot o ≡ None
    pub stays : moved_target l from to (slot, o) ≡ o
    pub away : enters l from (slot, o) ≡ false

  pub record IsChanged (slot : ℕ) (o : Option ℕ) : Type 0 where
    pub old : ℕ
    pub refers : o ≡ Some old
    pub change : change_at l from to slot o ≡ Some (record { slot = slot; place = same_offset l old to })
    pub moves : moved_target l from to (slot, o) ≡ Some (same_offset l old to)
    pub enters : enters l from (slot, o) ≡ true

  changed_if : (slot place : ℕ) (b : Bool) → enters l from (slot, Some place) ≡ b → IsLeft slot (Some place) ⊎ IsChanged slot (Some place)
  changed_if slot place true is = inr (record { old = place; refers = refl; change = rw is refl; moves = rw is refl; enters = is })
  changed_if slot place false is = inl (record { none = rw is refl; stays = rw is refl; away = is })

  pub change_cases : (slot : ℕ) (o : Option ℕ) → IsLeft slot o ⊎ IsChanged slot o
  change_cases slot None = inl (record { none = refl; stays = refl; away = refl })
  change_cases slot (Some place) = changed_if slot place (enters l from (slot, Some place)) refl

  -- what does not enter is left
  pub left_stays : (slot : ℕ) (o : Option ℕ) → enters l from (slot, o) ≡ false → moved_target l from to (slot, o) ≡ o
  left_stays slot o away = elim (change_cases slot o) [ inl left ↦ left.stays | inr c ↦ absurd (true≢false (sym c.enters ∙ away)) ]

  -- a slot that is written later does not change what the others make
  pub same_changes : (refs : List (Option ℕ)) (s : ℕ) (v : Option ℕ) (slots : List ℕ) → (Contains slots s → ⊥) → changes_of l (list_set refs s v) from to slots ≡ changes_of l refs from to slots
  same_changes refs s v [] apart = refl
  same_changes refs s v (q ∷ slots) apart =
      let other : q ≢ s = λ e. apart (0, omega arith, e) in
      λ i. cons_option ((ap (λ (o : Option ℕ). change_at l from to q o) (get_or-set_other refs s q v None other)) i) ((same_changes refs s v slots (λ c. apart (suc c.0, omega (arith, c.1), c.2))) i)

  module _ (some : 0 < l.cards * l.slots) (apart : from ≢ to) where
    pub moved_away : (slot old : ℕ) → enters l from (slot, Some (same_offset l old to)) ≡ false
    moved_away slot old = false_from_ne_true _ (λ h. apart (sym (eqb-true _ _ (and_parts _ _ h).1) ∙ same_offset_region l old to some))

    -- where the slots are distinct and each slot that enters the region is one of them, making their changes moves all
    pub all_moved : (slots : List ℕ) (refs : List (Option ℕ)) → IsDistinct nat_eq slots → ((slot : ℕ) → enters l from (slot, get_or refs slot None) ≡ true → Contains slots slot)
        → (changed refs (changes_of l refs from to slots) ≡ map (moved_target l from to) (enumerate_from 0 refs)) × (length (changes_of l refs from to slots) ≡ count_by (enters l from) (enumerate_from 0 refs))
    all_moved [] refs distinct each =
        let out : (slot : ℕ) → enters l from (slot, get_or refs slot None) ≡ false = λ slot. false_from_ne_true _ (λ h. let c : Contains [] slot = each slot h in absurd (omega (arith, c.1))) in
        (sym (map_same refs None (moved_target l from to) (λ k inside. left_stays k (get_or refs k None) (out k))), sym (count_none refs None (enters l from) (λ k inside. out k)))
    all_moved (s ∷ slots) refs distinct each = elim (change_cases s (get_or refs s None)) [
      | inl left ↦
          let rest = all_moved slots refs (IsDistinct-tail nat_eq s slots distinct) (λ slot h. Contains-tail s slots slot (λ e. true≢false (sym h ∙ ap (λ (q : ℕ). enters l from (q, get_or refs q None)) (sym e) ∙ left.away)) (each slot h)) in
          let none : changes_of l refs from to (s ∷ slots) ≡ changes_of l refs from to slots = ap (λ (o : Option Change). cons_option o (changes_of l refs from to slots)) left.none in
          (ap (λ (cs : List Change). changed refs cs) none ∙ rest.0, ap (λ (cs : List Change). length cs) none ∙ rest.1)
      | inr c ↦
          let v : Option ℕ = Some (same_offset l c.old to) in
          let here : Change = record { slot = s; place = same_offset l c.old to } in
          let inside : s < length refs = elim (cases_lt s (length refs)) [ inl lt ↦ lt | inr past ↦ let null : None ≡ Some c.old = sym (get_or_past refs s None past) ∙ c.refers in cc ] in
          let gone : enters l from (s, get_or (list_set refs s v) s None) ≡ false = ap (λ (o : Option ℕ). enters l from (s, o)) (get_or-set_same refs s v None inside) ∙ moved_away s c.old in
          let rest = all_moved slots (list_set refs s v) (IsDistinct-tail nat_eq s slots distinct) (λ slot h.
          let other : slot ≢ s = λ e. true≢false (sym h ∙ ap (λ (q : ℕ). enters l from (q, get_or (list_set refs s v) q None)) e ∙ gone) in
          Contains-tail s slots slot (λ e. other (sym e)) (each slot (ap (λ (o : Option ℕ). enters l from (slot, o)) (sym (get_or-set_other refs s slot v None other)) ∙ h))) in
          let all : changes_of l refs from to (s ∷ slots) ≡ here ∷ changes_of l (list_set refs s v) from to slots = ap (λ (o : Option Change). cons_option o (changes_of l refs from to slots)) c.change ∙ ap (λ (cs : List Change). here ∷ cs) (sym (same_changes refs s v slots (front_apart s slots distinct))) in
          let kept : map (moved_target l from to) (enumerate_from 0 (list_set refs s v)) ≡ map (moved_target l from to) (enumerate_from 0 refs) = map_set refs None (moved_target l from to) None s v inside (left_stays s v (moved_away s c.old) ∙ sym c.moves) in
          let fewer : count_by (enters l from) (enumerate_from 0 (list_set refs s v)) + 1 ≡ count_by (enters l from) (enumerate_from 0 refs) = count_set refs None (enters l from) s v inside (moved_away s c.old) c.enters in (
            ap (λ (cs : List Change). changed refs cs) all ∙ rest.0 ∙ kept,
            omega (arith, ap (λ (cs : List Change). length cs) all, rest.1, fewer),
          )
    ]

-- places stay within the heap
pub changed_places : (l : Shape) (changes : List Change) (refs : List (Option ℕ)) → All (λ target. IfSome target (λ place. place < slot_count l)) refs → All (λ change. change.place < slot_count l) changes → All (λ target. IfSome target (λ place. place < slot_count l)) (changed refs changes)
changed_places l [] refs each within = each
changed_places l (c ∷ changes) refs each within =
    changed_places l changes (list_set refs c.slot (Some c.place)) (All-set (λ target. IfSome target (λ place. place < slot_count l)) refs c.slot (Some c.place) (within 0 c (omega arith)) each) (λ k d lt. within (suc k) d (omega arith))

-- pairs of some cards with a region
pub of_region_from : (cards : List ℕ) (region : ℕ) (p : ℕ × ℕ) → Contains (map (λ (c : ℕ). (c, region)) cards) p → (p.1 ≡ region) × Contains cards p.0
of_region_from cards region p (k, lt, e) =
    let below : k < length cards = omega (arith, length-map {B = ℕ × ℕ} cards (λ (c : ℕ). (c, region))) in
    let is : ◌≡◌ {A = ℕ × ℕ} (get_or cards k p.0, region) p = sym (get_or-map (λ (c : ℕ). (c, region)) cards k p.0 p below) ∙ e in
    (ap (λ (q : ℕ × ℕ). q.1) (sym is), (k, below, ap (λ (q : ℕ × ℕ). q.0) is))

pub of_region_to : (cards : List ℕ) (region card : ℕ) → Contains cards card → Contains {X = ℕ × ℕ} (map (λ (c : ℕ). (c, region)) cards) (card, region)
of_region_to cards region card (k, lt, e) = (k, omega (arith, length-map {B = ℕ × ℕ} cards (λ (c : ℕ). (c, region))), get_or-map (λ (c : ℕ). (c, region)) cards k card (card, region) lt ∙ ap (λ (q : ℕ). (q, region)) e)

-- what a heap and its sets keep while it is only read
pub read_core : (heap now : Cells) (sets : Pairs) (ring : Ring) (pending most : ℕ) → IsCore heap sets ring pending → AreRead heap now most → IsCore now sets ring pending
read_core heap now sets ring pending most core read = subst (λ (h : Cells). IsCore h sets ring pending) (sym read.cells) (search)
