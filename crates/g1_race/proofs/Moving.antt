-- References that are moved from one region to another at a pause, slot by slot and card by card.
use Rattle.std.specs.Prelude.{◌^◌, ◌≡◌, ◌≢◌, ◌⊎◌, ◌+◌, ◌-◌, ◌*◌, ◌/◌, ◌%◌, ◌<◌, ◌≤◌}
use Rattle.g1_race.specs.{ℕ, true, false, List, length, set, get_or, mod-lt, refl, sym, ap, ◌∙◌, subst, inl, inr, ⊎_elim, arith, some, some-injective, get_elem?, and_parts, cases_Bool, cases_lt, eqb-true, true≢false, div-mul-add, set_else, set_here, RaceShape, In, IsBegun, IsWholeShape, HasBit, slot_card, crosses, mark_word, region_at, started, word_count, Notes, AreMoved, Acquires, is_into, moved_word, word_after, mark_apart, bit_as, same_bits, false_is, true_is, zero, suc, eqb, div-lt_iff_lt-mul, card_below, IsMarked, eq-eqb, and_from, false_from_ne_true, mul-le-mul_right, suc-mul, as_number, Into, is_member, into_count, reads_as}
use Rattle.g1_race.proofs.AtPause.{begun_placed, begun_read}
use Rattle.g1_race.proofs.Ends.{crosses_apart}
use Rattle.g1_race.proofs.PauseStores.{slot_in}
use Rattle.g1_race.proofs.StoreCalls.{other_region}
use Rattle.g1_race.proofs.LeastInto.{into_bit}

-- the word of a moved reference

pub moved_region : (k : RaceShape) (to n : ℕ) → 0 < k.span → region_at k (moved_word k to n) ≡ to
moved_region k to n pos = ap (λ (m : ℕ). m / k.span) (let e : to * k.span + (n - 1) % k.span + 1 - 1 ≡ to * k.span + (n - 1) % k.span = omega arith in e) ∙ div-mul-add to k.span ((n - 1) % k.span) (mod-lt (n - 1) pos)

pub moved_fits : (k : RaceShape) (to n : ℕ) → IsWholeShape k → to < k.regions → moved_word k to n ≤ k.slots
moved_fits k to n shaped lt = omega (arith, slot_in k to ((n - 1) % k.span) shaped lt (mod-lt (n - 1) shaped.2))

pub moved_low : (k : RaceShape) (to n : ℕ) → IsWholeShape k → to < k.regions → moved_word k to n < 2 ^ 32
moved_low k to n shaped lt = omega (arith, moved_fits k to n shaped lt, shaped.3)

pub moved_crosses : (k : RaceShape) (to p n : ℕ) → IsWholeShape k → to < k.regions → p / k.span ≢ to → crosses k p (moved_word k to n) ≡ true
moved_crosses k to p n shaped lt ne = let pos = shaped.2 in other_region k p (to * k.span + (n - 1) % k.span) (moved_word k to n) refl (moved_low k to n shaped lt) (λ e. ne (e ∙ div-mul-add to k.span ((n - 1) % k.span) (mod-lt (n - 1) pos)))

-- no moved reference refers into the region that it left
not_into : (k : RaceShape) (from to p n : ℕ) → 0 < k.span → (from ≡ to → ⊥) → is_into k from p (word_after k from to p n) ≡ true → ⊥
not_into k from to p n pos apart h = elim (cases_Bool (is_into k from p n)) [
  | inl yes_it ↦ apart (sym (eqb-true (region_at k (moved_word k to n)) from (and_parts _ _ (subst (λ (m : ℕ). is_into k from p m ≡ true) (true_is (is_into k from p n) (moved_word k to n) n yes_it) h)).1) ∙ moved_region k to n pos)
  | inr no_it ↦ true≢false (sym (subst (λ (m : ℕ). is_into k from p m ≡ true) (false_is (is_into k from p n) (moved_word k to n) n no_it) h) ∙ no_it)
]

-- one slot

module _ (k : RaceShape) (old mid : List ℕ) (from to p n : ℕ) (b : IsBegun (started k old)) (h : IsBegun (started k mid)) (xs : List (ℕ × ℕ)) (notes : Notes k old mid xs) (lt : p < k.slots) (low : to < k.regions) (at : get_elem? old p ≡ some n) (into : is_into k from p n ≡ true)
    (has : p / k.span ≢ to → In xs (slot_card k p, to)) (gain : (x : ℕ × ℕ) → In xs x → (p / k.span ≢ to) × ((slot_card k p, to) ≡ x)) where
  abbrev word : ℕ
  word = moved_word k to n

  abbrev new : List ℕ
  new = set mid p word

  bits : (x : ℕ × ℕ) → HasBit k mid x → HasBit k new x
  bits x = bit_as k mid new x (same_bits k mid p word (omega (arith, lt)))

  same : (q : ℕ) → (p < k.slots) → q ≢ p → q < k.slots + k.cards → get_elem? new q ≡ get_elem? old q
  same q here ne below = set_else mid p q word ne ∙ notes.front q below

  pub moved_slot : IsBegun (started k (set mid p (moved_word k to n))) × AreMoved k old (set mid p (moved_word k to n)) from to p 1
  moved_slot = (
    begun_placed k mid p word lt (inl (moved_fits k to n b.shaped low)) (λ cr. inl (subst (λ (r : ℕ). HasBit k mid (slot_card k p, r)) (sym (moved_region k to n b.shaped.2)) (notes.has (slot_card k p, to) (has (λ e. crosses_apart k p word cr (e ∙ sym (moved_region k to n b.shaped.2))))))) h,
    record {
      moved = λ q m le below inside there.
          let e : q ≡ p = omega (arith, le, below) in
          let one : m ≡ n = some-injective m n (sym there ∙ (ap (λ (j : ℕ). get_elem? old j) e ∙ at)) in
          ap (λ (j : ℕ). get_elem? new j) e ∙ (set_here mid p word (let s : length mid ≡ word_count k = h.sized in omega (arith, s, lt)) ∙ ap (λ (w : ℕ). some w)
          (sym (ap (λ (j : ℕ). word_after k from to j m) e ∙ (ap (λ (j : ℕ). word_after k from to p j) one ∙ true_is (is_into k from p n) word n into))));
      outside = λ q inside apart. same q lt (λ e. ⊎_elim (λ (a : q < p). absurd (omega (arith, a, e))) (λ (a : p + 1 ≤ q). absurd (omega (arith, a, e))) apart) (omega (arith, inside));
      marks = λ c below. same (mark_word k c) lt (λ e. mark_apart k p c lt e) (omega (arith, below));
      kept = λ x was. bits x (notes.kept x was);
      only = λ x pair is. ⊎_elim (λ (u : HasBit k old x). inl u) (λ (i : In xs x). let g = gain x i in inr (p, n, lt, at, into, g.0, g.1)) (notes.only x pair (bit_as k new mid x (λ y. sym (same_bits k mid p word (omega (arith, lt)) y)) is));
      has = λ q m le below inside there is ne.
          let e : p ≡ q = omega (arith, le, below) in
          subst (λ (j : ℕ). HasBit k new (slot_card k j, to)) e (bits (slot_card k p, to) (notes.has (slot_card k p, to) (has (λ f. ne (ap (λ (j : ℕ). j / k.span) (sym e) ∙ f)))));
    },
  )

-- several slots

pub moved_none : (k : RaceShape) (words : List ℕ) (from to first count : ℕ) → ((p n : ℕ) → first ≤ p → p < first + count → p < k.slots → get_elem? words p ≡ some n → is_into k from p n ≡ false) → AreMoved k words words from to first count
moved_none k words from to first count none = record {
  moved = λ p n le lt inside at. at ∙ ap (λ (w : ℕ). some w) (sym (false_is (is_into k from p n) (moved_word k to n) n (none p n le lt inside at)));
  outside = λ p inside apart. refl;
  marks = λ c below. refl;
  kept = λ x b. b;
  only = λ x pair b. inl b;
  has = λ p n le lt inside at is ne. absurd (true≢false (sym is ∙ none p n le lt inside at));
}

-- no moved slot still refers into the region
pub moved_away : (k : RaceShape) (old mid : List ℕ) (from to first a p n : ℕ) → (from ≡ to → ⊥) → IsBegun (started k old) → AreMoved k old mid from to first a → first ≤ p → p < first + a → p < k.slots → get_elem? mid p ≡ some n → is_into k from p n ≡ true → ⊥
moved_away k old mid from to first a p n apart begun h le low inside at is = not_into k from to p (get_or old p 0) begun.shaped.2 apart
    (subst (λ (m : ℕ). is_into k from p m ≡ true) (some-injective n (word_after k from to p (get_or old p 0)) (sym at ∙ h.moved p (get_or old p 0) le low inside (begun_read k old p begun inside))) is)

pub moved_then : (k : RaceShape) (old mid new : List ℕ) (from to first a b : ℕ) → (from ≡ to → ⊥) → IsBegun (started k old) → AreMoved k old mid from to first a → AreMoved k mid new from to (first + a) b → AreMoved k old new from to first (a + b)
moved_then k old mid new from to first a b apart begun h g = record {
  moved = λ p n le lt inside at. elim (cases_lt p (first + a)) [
    | inl low ↦ g.outside p inside (inl low) ∙ h.moved p n le low inside at
    | inr high ↦ g.moved p n high (omega (arith, lt)) inside (h.outside p inside (inr high) ∙ at)
  ];
  outside = λ p inside out. g.outside p inside (let later : (p < first + a) ⊎ (first + a + b ≤ p) = grind arith in later) ∙ h.outside p inside (let here : (p < first) ⊎ (first + a ≤ p) = grind arith in here);
  marks = λ c below. g.marks c below ∙ h.marks c below;
  kept = λ x was. g.kept x (h.kept x was);
  only = λ x pair is. ⊎_elim (λ (u : HasBit k mid x). h.only x pair u) (λ (u : Acquires k mid from to x). inr (gains_back u)) (g.only x pair is);
  has = λ p n le lt inside at is ne. elim (cases_lt p (first + a)) [
    | inl low ↦ g.kept (slot_card k p, to) (h.has p n le low inside at is ne)
    | inr high ↦ g.has p n high (omega (arith, lt)) inside (h.outside p inside (inr high) ∙ at) is ne
  ];
}
  where
    gains_back : {x : ℕ × ℕ} → Acquires k mid from to x → Acquires k old from to x
    gains_back {x} u = (u.0, u.1, u.2, was u.0 u.1 u.2 u.3 u.4, u.4, u.5, u.6)
      where
        was : (p n : ℕ) → p < k.slots → get_elem? mid p ≡ some n → is_into k from p n ≡ true → get_elem? old p ≡ some n
        was p n inside at is = elim (cases_lt p first) [
          | inl low ↦ sym (h.outside p inside (inl low)) ∙ at
          | inr le ↦ elim (cases_lt p (first + a)) [
            | inl low ↦ absurd (moved_away k old mid from to first a p n apart begun h le low inside at is)
            | inr high ↦ sym (h.outside p inside (inr high)) ∙ at
          ]
        ]

-- how many there are

pub count_same : (k : RaceShape) (a b : List ℕ) (region first n : ℕ) → first + n ≤ k.slots → ((p : ℕ) → first ≤ p → p < first + n → get_or a p 0 ≡ get_or b p 0) → into_count k a region first n ≡ into_count k b region first n
count_same k a b region first zero le h = refl
count_same k a b region first (suc n) le h = λ i. count_same k a b region first n (omega arith) (λ p x y. h p x (omega (arith, y))) i + as_number (is_into k region (first + n) (h (first + n) (omega arith) (omega arith) i))

pub count_more : (k : RaceShape) (words : List ℕ) (region first a b : ℕ) → into_count k words region first (a + b) ≡ into_count k words region first a + into_count k words region (first + a) b
count_more k words region first a zero = omega (arith, ap (into_count k words region first) (let e : a + 0 ≡ a = omega arith in e))
count_more k words region first a (suc b) =
    let e : a + suc b ≡ suc (a + b) = omega arith in
    let f : first + (a + b) ≡ first + a + b = omega arith in
    omega (arith, ap (into_count k words region first) e, count_more k words region first a b, ap (λ (n : ℕ). as_number (is_into k region n (get_or words n 0))) f)

pub count_one : (k : RaceShape) (words : List ℕ) (region first n : ℕ) → into_count k words region first (n + 1) ≡ into_count k words region first n + as_number (is_into k region (first + n) (get_or words (first + n) 0))
count_one k words region first n = ap (into_count k words region first) (let e : n + 1 ≡ suc n = omega arith in e)

pub count_none : (k : RaceShape) (words : List ℕ) (region first n : ℕ) → ((p : ℕ) → first ≤ p → p < first + n → is_into k region p (get_or words p 0) ≡ false) → into_count k words region first n ≡ 0
count_none k words region first zero none = refl
count_none k words region first (suc n) none = λ i. count_none k words region first n (λ p x y. none p x (omega (arith, y))) i + as_number (none (first + n) (omega arith) (omega arith) i)

-- a slot that refers into the region, in two forms

pub into_is : (k : RaceShape) (words : List ℕ) (region p n : ℕ) → p < k.slots → get_elem? words p ≡ some n → is_into k region p n ≡ true → Into k words region p
into_is k words region p n lt at is = let b = and_parts (crosses k p n) (eqb (region_at k n) region) is in (n, lt, at, b.0, eqb-true (region_at k n) region b.1)

pub is_into_of : (k : RaceShape) (region p n : ℕ) → crosses k p n ≡ true → region_at k n ≡ region → is_into k region p n ≡ true
is_into_of k region p n cr e = and_from (crosses k p n) (eqb (region_at k n) region) cr (eq-eqb (region_at k n) region e)

-- card by card

module _ (k : RaceShape) (old mid : List ℕ) (from to low high : ℕ) (begun : IsBegun (started k old)) (apart : from ≡ to → ⊥) (le : low ≤ high) (within : high ≤ k.cards)
    (clean : (c : ℕ) → c < k.cards → get_elem? old (mark_word k c) ≡ some 1 → ⊥) (h : AreMoved k old mid from to 0 (low * k.size)) (none : (c : ℕ) → low ≤ c → c < high → is_member k mid from c ≡ false) where
  in_order : low * k.size ≤ high * k.size
  in_order = mul-le-mul_right k.size le

  all_slots : high * k.size ≤ k.slots
  all_slots = omega (arith, mul-le-mul_right k.size within, begun.shaped.0)

  none_old : (p n : ℕ) → low * k.size ≤ p → p < high * k.size → p < k.slots → get_elem? old p ≡ some n → is_into k from p n ≡ false
  none_old p n from_low below lt at = false_from_ne_true _ (λ is.
      let bit : HasBit k mid (slot_card k p, from) = h.kept (slot_card k p, from) (into_bit k old from p begun clean (into_is k old from p n lt at is)) in
      true≢false (sym (eq-eqb _ 1 bit) ∙ none (slot_card k p)
      (elim (cases_lt (slot_card k p) low) [ inl under ↦ absurd (let x : p < low * k.size = (div-lt_iff_lt-mul begun.shaped.1).0 under in omega (arith, x, from_low)) | inr over ↦ over ])
      ((div-lt_iff_lt-mul begun.shaped.1).1 below)))

  pub passed : AreMoved k old mid from to 0 (high * k.size)
  passed = subst (λ (n : ℕ). AreMoved k old mid from to 0 n) (let e : low * k.size + (high * k.size - low * k.size) ≡ high * k.size = omega (arith, in_order) in e)
      (moved_then k old mid mid from to 0 (low * k.size) (high * k.size - low * k.size) apart begun h
      (moved_none k mid from to (0 + low * k.size) (high * k.size - low * k.size) (λ p n from_low below lt at.
      none_old p n (omega (arith, from_low)) (omega (arith, below, in_order)) lt (sym (h.outside p lt (inr from_low)) ∙ at))))

  pub passed_count : into_count k old from 0 (high * k.size) ≡ into_count k old from 0 (low * k.size)
  passed_count =
      let none_more = count_none k old from (0 + low * k.size) (high * k.size - low * k.size) (λ p from_low below.
      let lt : p < high * k.size = omega (arith, below, in_order) in none_old p (get_or old p 0) (omega (arith, from_low)) lt (omega (arith, all_slots, lt)) (begun_read k old p begun (omega (arith, all_slots, lt)))) in
      ap (into_count k old from 0) (let e : high * k.size ≡ low * k.size + (high * k.size - low * k.size) = omega (arith, in_order) in e)
      ∙ (count_more k old from 0 (low * k.size) (high * k.size - low * k.size) ∙ omega (arith, none_more))

  on_count : high < k.cards → into_count k old from 0 ((high + 1) * k.size) ≡ into_count k old from 0 (low * k.size) + into_count k mid from (high * k.size) k.size
  on_count lt =
      let fits : high * k.size + k.size ≤ k.slots = omega (arith, mul-le-mul_right k.size lt, suc-mul high k.size, begun.shaped.0) in
      ap (into_count k old from 0) (let e : (high + 1) * k.size ≡ high * k.size + k.size = omega arith in e)
      ∙ (count_more k old from 0 (high * k.size) k.size ∙ (λ i. passed_count i + (ap (λ (n : ℕ). into_count k old from n k.size) (let e : 0 + high * k.size ≡ high * k.size = omega arith in e)
      ∙ count_same k old mid from (high * k.size) k.size fits (λ p from_low below. let in_heap : p < k.slots = omega (arith, below, fits) in sym (reads_as mid p (get_or old p 0) 0 (passed.outside p in_heap (inr (omega (arith, from_low))) ∙ begun_read k old p begun in_heap)))) i))

  -- and then the slots of the card, among words that a call read
  pub on_card : (read new : List ℕ) (count more : ℕ) → read ≡ mid → high < k.cards → count ≡ into_count k old from 0 (low * k.size) → count ≤ low * k.size → AreMoved k read new from to (high * k.size) k.size → more ≡ into_count k read from (high * k.size) k.size → more ≤ k.size
      → AreMoved k old new from to 0 ((high + 1) * k.size) × (count + more ≡ into_count k old from 0 ((high + 1) * k.size)) × (count + more ≤ (high + 1) * k.size)
  on_card read new count more same lt counted few there then_counted then_few =
      let e : high * k.size + k.size ≡ (high + 1) * k.size = omega arith in
      let f : high * k.size ≡ 0 + high * k.size = omega arith in (
        subst (λ (n : ℕ). AreMoved k old new from to 0 n) e (moved_then k old mid new from to 0 (high * k.size) k.size apart begun passed (subst (λ (x : List ℕ × ℕ). AreMoved k x.0 new from to x.1 k.size) (λ i. (same i, f i)) there)),
        (λ i. counted i + (then_counted ∙ ap (λ (ws : List ℕ). into_count k ws from (high * k.size) k.size) same) i) ∙ sym (on_count lt),
        omega (arith, in_order, few, e, then_few),
      )

-- after all of them none is left

pub none_moved : (k : RaceShape) (old mid : List ℕ) (from to p : ℕ) → IsBegun (started k old) → (from ≡ to → ⊥) → AreMoved k old mid from to 0 k.slots → Into k mid from p → ⊥
none_moved k old mid from to p begun apart h x = moved_away k old mid from to 0 k.slots p x.0 apart begun h (omega arith) (omega (arith, x.1)) x.1 x.2 (is_into_of k from p x.0 x.3 x.4)
