-- A redirect at a pause as a step of the plain table.
use Rattle.std.specs.Prelude.{◌≡◌, ◌≢◌, ◌+◌, ◌/◌, ◌<◌, ◌≤◌, ◌&&◌, ◌||◌, ◌^◌, ◌-◌, ◌*◌, ◌%◌}
use Rattle.g1_race.specs.{true_is, length-take-le, ℕ, zero, suc, cond, eqb, map, take, Bool, true, false, List, length, get_or, Option, Some, None, refl, sym, ap, ◌∙◌, subst, inl, inr, ⊎_elim, arith, ne_eqb, not, count_by, some, get_elem?, enumerate_from, filter_map, and_from, and_parts, cases_Bool, eqb-false, not-true, or_cases, or_left, or_right, get_or_default, get_or-map, length-map, length-take, count_by_more_no, count_by_more_yes, slot_count, region_of, pair_cmp, Table, enters, moved_target, moved_pair, moved, moved_count, pair_total, pair_exact, listed, unlisted, Kept, from_kept, to_kept, slot_of, RaceShape, IsBegun, IsPair, HasBit, slot_card, front, mark_word, as_number, started, shape_of, ended, refs_of, table_of, target_of_word, AreMovedAway, Acquires, into_count, is_into, word_after, card_below, in_row, take_all, and_left, cases_eq, reference_crosses, cases_lt, same_offset, crosses, region_at, moved_word, crosses_reference, false_is}
use Rattle.std.proofs.lemmas.List.{ext_get_or}
use Rattle.std.proofs.lemmas.List.FromFn.{get_or-enumerate_from, length-enumerate_from}
use Rattle.std.proofs.lemmas.Bool.Decides.{nat_tests}
use Rattle.g1_race_words.proofs.Crossing.{data_crosses, null_crosses}
use Rattle.std.specs.FinSet as set
use Rattle.g1_layout.specs.Shape as layout
use Rattle.g1_race.proofs.Ends.{recorded_set, set_recorded, target_data, target_some}
use Rattle.g1_race.proofs.PauseTable.{pending_word, slots_are, table_is, word_pending}
use Rattle.g1_race.proofs.AtPause.{begun_read}
use Rattle.g1_race.proofs.PauseStores.{slot_gives}
use Rattle.g1_race.proofs.Moving.{moved_low}
use Rattle.g1_race.proofs.FlagWords.{front_at}

same_under : (a b r : ℕ) → (not (eqb a b) && eqb b r) ≡ (not (eqb a r) && eqb b r)
same_under a b r = grind (arith, nat_tests)

module _ (k : RaceShape) (l : layout.Shape) (laid : k ≡ shape_of l k.parties) where
  pub span_is : k.span ≡ l.cards * l.slots
  span_is = ap (λ (s : RaceShape). s.span) laid

  -- a slot refers into a region by its word just where it does by its target
  pub enters_is : (region p n : ℕ) → is_into k region p n ≡ enters l region (p, target_of_word n)
  enters_is region p n = elim (cases_eq n 0) [
    | inl z ↦ and_left _ _ (null_crosses k p n z) ∙ sym (ap (λ (m : ℕ). enters l region (p, target_of_word m)) z)
    | inr ne ↦ elim (cases_lt n (2 ^ 32)) [
      | inl low ↦ ap (λ (b : Bool). b && eqb (region_at k n) region) (reference_crosses k p n (ne, low)) ∙ (same_under (p / k.span) (region_at k n) region
          ∙ (ap (λ (s : ℕ). not (eqb (p / s) region) && eqb ((n - 1) / s) region) span_is ∙ sym (ap (λ (o : Option ℕ). enters l region (p, o)) (target_some n (ne, low)))))
      | inr high ↦ and_left _ _ (data_crosses k p n high) ∙ sym (ap (λ (o : Option ℕ). enters l region (p, o)) (target_data n high))
    ]
  ]

  stays_put : (from to p : ℕ) (o : Option ℕ) → enters l from (p, o) ≡ false → moved_target l from to (p, o) ≡ o
  stays_put from to p None e = refl
  stays_put from to p (Some place) e = ap (λ (b : Bool). cond b (Some (same_offset l place to)) (Some place)) e

  pub after_target : (from to p n : ℕ) → moved_word k to n < 2 ^ 32 → target_of_word (word_after k from to p n) ≡ moved_target l from to (p, target_of_word n)
  after_target from to p n small = elim (cases_Bool (is_into k from p n)) [
    | inl is ↦
        let target : target_of_word n ≡ Some (n - 1) = target_some n (crosses_reference k p n (and_parts (crosses k p n) (eqb (region_at k n) from) is).0) in
        ap target_of_word (true_is (is_into k from p n) (moved_word k to n) n is)
        ∙ (target_some (moved_word k to n) ((λ z. absurd (omega (arith, z))), small)
        ∙ (ap Some ((let e : to * k.span + (n - 1) % k.span + 1 - 1 ≡ to * k.span + (n - 1) % k.span = omega arith in e) ∙ ap (λ (s : ℕ). to * s + (n - 1) % s) span_is)
        ∙ (sym (ap (λ (b : Bool). cond b (Some (same_offset l (n - 1) to)) (Some (n - 1))) (subst (λ (o : Option ℕ). enters l from (p, o) ≡ true) target (sym (enters_is from p n) ∙ is)))
        ∙ ap (λ (o : Option ℕ). moved_target l from to (p, o)) (sym target))))
    | inr is ↦ ap target_of_word (false_is (is_into k from p n) (moved_word k to n) n is) ∙ sym (stays_put from to p (target_of_word n) (sym (enters_is from p n) ∙ is))
  ]

count_next : {X : Type 0} (p : X → Bool) (xs : List X) (i : ℕ) (d : X) → i < length xs → count_by p (take (i + 1) xs) ≡ count_by p (take i xs) + as_number (p (get_or xs i d))
count_next p xs i d lt = elim (cases_Bool (p (get_or xs i d))) [
  | inl e ↦ omega (arith, count_by_more_yes p xs i d lt e, ap as_number e)
  | inr e ↦ omega (arith, count_by_more_no p xs i d lt e, ap as_number e)
]

module _ (k : RaceShape) (l : layout.Shape) (laid : k ≡ shape_of l k.parties) where
  refs_len : (words : List ℕ) → IsBegun (started k words) → length (refs_of (ended l k words)) ≡ slot_count l
  refs_len words h = length-map (take (slot_count l) (front k words)) target_of_word ∙ length-take-le (slot_count l) (front k words) (omega (arith, h.sized, slots_are k l laid, length-take (k.slots + k.cards) words))

  module _ (old new : List ℕ) (from to : ℕ) (b : IsBegun (started k old)) (h : IsBegun (started k new)) (away : AreMovedAway k old new from to) (within : to < k.regions) where
    abbrev t : Table
    t = table_of (ended l k old)

    abbrev mid : List ℕ
    mid = away.between

    abbrev refs : List (Option ℕ)
    refs = refs_of (ended l k old)

    word_now : (p : ℕ) → p < k.slots → get_elem? new p ≡ some (word_after k from to p (get_or old p 0))
    word_now p lt = front_at k mid new p away.emptied.front (omega (arith, lt)) ∙ away.moved.moved p (get_or old p 0) (omega arith) (omega (arith, lt)) lt (begun_read k old p b lt)

    ref_old : (p : ℕ) → p < k.slots → get_or refs p None ≡ target_of_word (get_or old p 0)
    ref_old p lt = slot_gives k l old p (get_or old p 0) laid lt (begun_read k old p b lt)

    listed_len : length (enumerate_from 0 refs) ≡ slot_count l
    listed_len = length-enumerate_from 0 refs ∙ refs_len old b

    listed_at : (p : ℕ) → p < slot_count l → get_or (enumerate_from 0 refs) p (0, None) ≡ (p, get_or refs p None)
    listed_at p lt = get_or-enumerate_from 0 refs p (0, None) (omega (arith, lt, refs_len old b)) ∙ ap (λ (q : ℕ). (q, get_or refs p None)) (let first : 0 + p ≡ p = omega arith in first)

    refs_moved : refs_of (ended l k new) ≡ map (moved_target l from to) (enumerate_from 0 refs)
    refs_moved = ext_get_or None _ _ (refs_len new h ∙ sym (length-map (enumerate_from 0 refs) (moved_target l from to) ∙ listed_len)) (λ p below.
        let lt : p < slot_count l = omega (arith, below, refs_len new h) in
        let low : p < k.slots = omega (arith, lt, slots_are k l laid) in
        slot_gives k l new p (word_after k from to p (get_or old p 0)) laid low (word_now p low) ∙ (after_target k l laid from to p (get_or old p 0) (moved_low k to (get_or old p 0) b.shaped within)
        ∙ (ap (moved_target l from to) (ap (λ (o : Option ℕ). (p, o)) (sym (ref_old p low)) ∙ sym (listed_at p lt)) ∙ sym (get_or-map (moved_target l from to) (enumerate_from 0 refs) p (0, None) None (omega (arith, lt, listed_len))))))

    mark_same : (c : ℕ) → c < k.cards → get_elem? new (mark_word k c) ≡ get_elem? old (mark_word k c)
    mark_same c lt = front_at k mid new (mark_word k c) away.emptied.front (omega (arith, lt)) ∙ away.moved.marks c lt

    recorded_is : (x : ℕ × ℕ) → set.contains (moved from to t).recorded x ≡ ((set.contains t.recorded x || set.contains (set.from_list {R = pair_cmp} (filter_map (moved_pair l from to) (enumerate_from 0 refs))) x) && not (eqb x.1 from))
    recorded_is x =
        set.contains-retain _ (λ pair. not (eqb pair.1 from)) x (λ y e. ap (λ (q : ℕ × ℕ). not (eqb q.1 from)) (sym (pair_exact x y e)))
        ∙ ap (λ (c : Bool). c && not (eqb x.1 from)) (set.contains-union pair_total t.recorded _ x)

    card_of_slot : (p : ℕ) → slot_card k p ≡ layout.card_of l p
    card_of_slot p = ap (λ (s : RaceShape). p / s.size) laid

    gained : (x : ℕ × ℕ) → Acquires k old from to x → set.contains (set.from_list {R = pair_cmp} (filter_map (moved_pair l from to) (enumerate_from 0 refs))) x ≡ true
    gained x (p, n, lt, at, is, ne, e) =
        let low : p < slot_count l = omega (arith, lt, slots_are k l laid) in
        let enter : enters l from (p, get_or refs p None) ≡ true = ap (λ (o : Option ℕ). enters l from (p, o)) (slot_gives k l old p n laid lt at) ∙ (sym (enters_is k l laid from p n) ∙ is) in
        let outside : eqb (region_of l p) to ≡ false = ne_eqb (region_of l p) to (λ f. ne (ap (λ (s : ℕ). p / s) (span_is k l laid) ∙ f)) in
        let makes : moved_pair l from to (p, get_or refs p None) ≡ Some (layout.card_of l p, to) = true_is (enters l from (p, get_or refs p None) && not (eqb (region_of l p) to)) (Some (layout.card_of l p, to)) None (and_from _ _ enter (ap not outside)) in
        subst (λ (y : ℕ × ℕ). set.contains (set.from_list {R = pair_cmp} (filter_map (moved_pair l from to) (enumerate_from 0 refs))) y ≡ true) (ap (λ (c : ℕ). (c, to)) (sym (card_of_slot p)) ∙ e)
        (unlisted pair_total pair_exact _ _ (to_kept (moved_pair l from to) (enumerate_from 0 refs) p (p, get_or refs p None) (layout.card_of l p, to) (omega (arith, low, listed_len))
        (get_or_default (enumerate_from 0 refs) p (p, get_or refs p None) (0, None) (omega (arith, low, listed_len)) ∙ listed_at p low) makes))

    pair_parts : (p : ℕ) (x : ℕ × ℕ) (c : Bool) → cond {A = Option (ℕ × ℕ)} c (Some (layout.card_of l p, to)) None ≡ Some x → (c ≡ true) × ((layout.card_of l p, to) ≡ x)
    pair_parts p x true e = (refl, cc)
    pair_parts p x false e = cc

    kept_bit : (x : ℕ × ℕ) → Kept (moved_pair l from to) (enumerate_from 0 refs) x → HasBit k mid x × IsPair k x
    kept_bit x (p, slot, below, at, makes) =
        let lt : p < k.slots = omega (arith, below, listed_len, slots_are k l laid) in
        let q = pair_parts p x (enters l from (p, get_or refs p None) && not (eqb (region_of l p) to)) (ap (moved_pair l from to) (slot_of refs p slot below at) ∙ makes) in
        let c = and_parts (enters l from (p, get_or refs p None)) (not (eqb (region_of l p) to)) q.0 in
        let into : is_into k from p (get_or old p 0) ≡ true = enters_is k l laid from p (get_or old p 0) ∙ (ap (λ (o : Option ℕ). enters l from (p, o)) (sym (ref_old p lt)) ∙ c.0) in
        let ne : p / k.span ≢ to = λ e. eqb-false (region_of l p) to (not-true (eqb (region_of l p) to) c.1) (ap (λ (s : ℕ). p / s) (sym (span_is k l laid)) ∙ e) in
        subst (λ (y : ℕ × ℕ). HasBit k mid y × IsPair k y) (ap (λ (d : ℕ). (d, to)) (card_of_slot p) ∙ q.1) (away.moved.has p (get_or old p 0) (omega arith) (omega (arith, lt)) lt (begun_read k old p b lt) into ne, (card_below k p b.shaped lt, within))

    pub moved_is : table_of (ended l k new) ≡ moved from to (table_of (ended l k old))
    moved_is = table_is k l laid new (moved from to t) h refl refs_moved
        (λ c p. let w = pending_word k l laid new c p in word_pending k l laid old c w.0 (sym (mark_same c w.0) ∙ w.1))
        (λ c p. let w = pending_word k l laid old c p in word_pending k l laid new c w.0 (mark_same c w.0 ∙ w.1))
        (λ x pair bit.
        let out : x.1 ≢ from = λ e. away.emptied.clear x pair.0 e (in_row k x b.shaped pair) bit in
        recorded_is x ∙ and_from _ _ (⊎_elim
        (λ (u : HasBit k old x). or_left _ _ (set_recorded k l old laid b x pair u))
        (λ (u : Acquires k old from to x). or_right _ _ (gained x u))
        (away.moved.only x pair.0 (away.emptied.only x pair.0 bit))) (ap not (ne_eqb x.1 from out)))
        (λ x c.
        let p = and_parts _ _ (sym (recorded_is x) ∙ c) in
        let out : x.1 ≢ from = eqb-false x.1 from (not-true (eqb x.1 from) p.1) in
        elim (or_cases _ _ p.0) [
          | inl was ↦ let s = recorded_set k l old laid b x was in (s.0, away.emptied.kept x s.0.0 out (away.moved.kept x s.1))
          | inr gain ↦ let s = kept_bit x (from_kept (moved_pair l from to) (enumerate_from 0 refs) x (listed pair_total pair_exact _ _ gain)) in (s.1, away.emptied.kept x s.1.0 out s.0)
        ])

    counted : (i : ℕ) → i ≤ slot_count l → count_by (enters l from) (take i (enumerate_from 0 refs)) ≡ into_count k old from 0 i
    counted zero le = refl
    counted (suc i) le =
        let low : i < slot_count l = omega arith in
        let is : is_into k from i (get_or old i 0) ≡ enters l from (get_or (enumerate_from 0 refs) i (0, None)) = enters_is k l laid from i (get_or old i 0) ∙ ap (enters l from) (ap (λ (o : Option ℕ). (i, o)) (sym (ref_old i (omega (arith, low, slots_are k l laid)))) ∙ sym (listed_at i low)) in
        let last = ap (λ (n : ℕ). as_number (is_into k from n (get_or old n 0))) (let e : 0 + i ≡ i = omega arith in e) in
        let next = ap (λ (n : ℕ). count_by (enters l from) (take n (enumerate_from 0 refs))) (let e : suc i ≡ i + 1 = omega arith in e) in
        omega (arith, next, count_next (enters l from) (enumerate_from 0 refs) i (0, None) (omega (arith, low, listed_len)), last, ap as_number is, counted i (omega (arith, le)))

    pub count_is : into_count k old from 0 k.slots ≡ moved_count from (table_of (ended l k old))
    count_is = ap (into_count k old from 0) (slots_are k l laid) ∙ (sym (counted (slot_count l) (omega arith)) ∙ ap (count_by (enters l from)) (take_all (enumerate_from 0 refs) (slot_count l) (omega (arith, listed_len))))
