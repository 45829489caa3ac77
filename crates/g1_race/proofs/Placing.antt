-- A core's table is placed into the words of a heap of nulls, which then say that table.
use Rattle.std.specs.Prelude.{◌≡◌, ◌⊎◌, ◌+◌, ◌-◌, ◌*◌, ◌/◌, ◌<◌, ◌≤◌, ◌∷◌, ◌^◌, ◌≢◌}
use Rattle.g1_race.specs.{ℕ, zero, suc, List, [], set, length, Bool, true, false, All, refl, sym, ap, ◌∙◌, subst, inl, inr, ⊎_elim, arith, some, get_elem?, div-mul-add, mul-add-lt, set_else, set_here, slot_count, card_count, Table, IsPairOf, RaceShape, In, IsWholeShape, IsMarked, IsPair, IsOfCrossing, HasBit, slot_card, crosses, flag, mark_word, region_at, as_number, shape_of, word_of, Notes, KeepsBits, AreMarked, ArePlaced, AreCovered, SameBits, same_bits, bit_as, card_below, mark_apart, eqb-true, length-take, take, get_or, Option, None, Some, length-map, length-take-le, get_or_past, cases_lt, true≢false, region_of, State, IsSound, same_cards, same_pairs, in_pairs, to_pairs, pending_flag, word_count, Ended, ended, target_of_word, refs_of, marks_of, table_of, HasWordsOf, zeros, zero_at, no_bit, zeros_read, crosses_reference, at_take, in_contains, contains_in, reads_as, listed_set, set_listed}
use Rattle.std.proofs.lemmas.List.{ext_get_or}
use Rattle.std.specs.FinSet as set_of
use Rattle.g1_layout.specs.Shape as layout
use Rattle.g1_core.specs.Table as table
use Rattle.g1_race.proofs.AtPause.{filled_next}
use Rattle.g1_race.proofs.FlagWords.{flag_only}
use Rattle.g1_race.proofs.StoreCalls.{other_region, word_fits}
use Rattle.g1_race.proofs.Ends.{region_of_quotient, length_marks, refs_here, marks_here, word_target, crosses_apart, marked_pending}
use Rattle.g1_race.proofs.Telling.{some_below}

keeps_same : (k : RaceShape) (old new : List ℕ) → SameBits k old new → KeepsBits k old new
keeps_same k old new same = record { on = λ x b. bit_as k old new x same b; back = λ x pair b. bit_as k new old x (λ y. sym (same y)) b }

keeps_then : (k : RaceShape) (a b c : List ℕ) → KeepsBits k a b → KeepsBits k b c → KeepsBits k a c
keeps_then k a b c h g = record { on = λ x t. g.on x (h.on x t); back = λ x pair t. h.back x pair (g.back x pair t) }

-- marks

abbrev mark_of : Table → ℕ → ℕ
mark_of t c = as_number (set_of.contains t.pending c)

abbrev word_at : Table → ℕ → ℕ
word_at t p = word_of (table.target_of t p)

-- the flag of a card is set
pub marked_flag : (k : RaceShape) (t : Table) (old mid new : List ℕ) (n c : ℕ) → Notes k mid new (flag k c ∷ []) → AreMarked k t old mid n → AreMarked k t old new n
marked_flag k t old mid new n c notes h = record {
  slots = λ p lt. notes.front p (omega (arith, lt)) ∙ h.slots p lt;
  marks = λ d up below. notes.front (mark_word k d) (omega (arith, below)) ∙ h.marks d up below;
  later = λ d le below. notes.front (mark_word k d) (omega (arith, below)) ∙ h.later d le below;
  bits = record { on = λ x b. notes.kept x (h.bits.on x b); back = λ x pair b. h.bits.back x pair (flag_only k mid new c notes x pair b) };
}

-- a card that is pending
pub mark_next : (k : RaceShape) (t : Table) (old mid : List ℕ) (n : ℕ) → n < k.cards → k.slots + k.cards ≤ length mid → set_of.contains t.pending n ≡ true → AreMarked k t old mid n → AreMarked k t old (set mid (mark_word k n) 1) (n + 1)
mark_next k t old mid n lt long is h = record {
  slots = λ p below. set_else mid (mark_word k n) p 1 (λ e. absurd (omega (arith, e, below))) ∙ h.slots p below;
  marks = filled_next k.cards (mark_word k) (mark_of t) mid (set mid (mark_word k n) 1) n h.marks (set_here mid (mark_word k n) 1 (omega (arith, lt, long)) ∙ ap (λ (b : Bool). some (as_number b)) (sym is)) (λ c ne below. set_else mid (mark_word k n) (mark_word k c) 1 (λ e. ne (omega (arith, e))));
  later = λ c le below. set_else mid (mark_word k n) (mark_word k c) 1 (λ e. absurd (omega (arith, e, le))) ∙ h.later c (omega (arith, le)) below;
  bits = keeps_then k old mid _ h.bits (keeps_same k mid _ (same_bits k mid (mark_word k n) 1 (omega (arith, lt))));
}

-- one that is not, where it was clean
pub marked_past : (k : RaceShape) (t : Table) (old mid : List ℕ) (n : ℕ) → n < k.cards → get_elem? old (mark_word k n) ≡ some 0 → set_of.contains t.pending n ≡ false → AreMarked k t old mid n → AreMarked k t old mid (n + 1)
marked_past k t old mid n lt zero_is is h = record { slots = h.slots; marks = filled_next k.cards (mark_word k) (mark_of t) mid mid n h.marks (h.later n (omega arith) lt ∙ (zero_is ∙ ap (λ (b : Bool). some (as_number b)) (sym is))) (λ c ne below. refl); later = λ c le below. h.later c (omega (arith, le)) below; bits = h.bits }

-- slots

-- a slot that refers
pub placed_next : (k : RaceShape) (t : Table) (old mid : List ℕ) (n word : ℕ) → n < k.slots → k.slots ≤ length mid → word ≡ word_of (table.target_of t n) → ArePlaced k t old mid n → ArePlaced k t old (set mid n word) (n + 1)
placed_next k t old mid n word lt long is h = record {
  slots = filled_next k.slots (λ p. p) (word_at t) mid (set mid n word) n h.slots (set_here mid n word (omega (arith, lt, long)) ∙ ap (λ (i : ℕ). some i) is) (λ p ne below. set_else mid n p word ne);
  later = λ p le below. set_else mid n p word (λ e. absurd (omega (arith, e, le))) ∙ h.later p (omega (arith, le)) below;
  marks = λ c below. set_else mid n (mark_word k c) word (λ e. mark_apart k n c lt e) ∙ h.marks c below;
  bits = keeps_then k old mid _ h.bits (keeps_same k mid _ (same_bits k mid n word (omega (arith, lt))));
}

-- one that is null, as it was
pub placed_past : (k : RaceShape) (t : Table) (old mid : List ℕ) (n word : ℕ) → n < k.slots → get_elem? old n ≡ some 0 → word ≡ word_of (table.target_of t n) → word ≡ 0 → ArePlaced k t old mid n → ArePlaced k t old mid (n + 1)
placed_past k t old mid n word lt zero_is is none h = record { slots = filled_next k.slots (λ p. p) (word_at t) mid mid n h.slots (h.later n (omega arith) lt ∙ (zero_is ∙ ap (λ (i : ℕ). some i) (sym none ∙ is))) (λ p ne below. refl); later = λ p le below. h.later p (omega (arith, le)) below; marks = h.marks; bits = h.bits }

-- a slot's reference is covered while others are placed
pub covered_on : (k : RaceShape) (t : Table) (old mid : List ℕ) (n : ℕ) → IsWholeShape k → ArePlaced k t old mid n → AreCovered k t old → (p word : ℕ) → p < k.slots → word ≡ word_of (table.target_of t p) → crosses k p word ≡ true → HasBit k mid (slot_card k p, region_at k word) ⊎ IsMarked k mid p
covered_on k t old mid n shaped h covers p word lt e cr = ⊎_elim
    (λ (b : HasBit k old (slot_card k p, region_at k (word_of (table.target_of t p)))). inl (h.bits.on _ (subst (λ (w : ℕ). HasBit k old (slot_card k p, region_at k w)) (sym e) b)))
    (λ (m : IsMarked k old p). inr (h.marks (slot_card k p) (card_below k p shaped lt) ∙ m))
    (covers p lt (subst (λ (w : ℕ). crosses k p w ≡ true) e cr))

-- a pair of the heap is that of some reference that crosses regions
pub pair_crosses : (l : layout.Shape) (m : ℕ) (x : ℕ × ℕ) → IsWholeShape (shape_of l m) → IsPairOf l x → IsOfCrossing (shape_of l m) x
pair_crosses l m x shaped pair = (p, n, (omega (arith, mul-add-lt x.0 l.slots 0 (card_count l) pair.0 shaped.1, shaped.0), fits, across), λ i. (card i, region i))
  where
    k : RaceShape
    k = shape_of l m

    p : ℕ
    p = x.0 * l.slots + 0

    n : ℕ
    n = x.1 * (l.cards * l.slots) + 0 + 1

    card : p / l.slots ≡ x.0
    card = div-mul-add x.0 l.slots 0 shaped.1

    region : (n - 1) / (l.cards * l.slots) ≡ x.1
    region = ap (λ (i : ℕ). i / (l.cards * l.slots)) (let a : ℕ = x.1 * (l.cards * l.slots) in let e : a + 0 + 1 - 1 ≡ a + 0 = omega arith in e) ∙ div-mul-add x.1 (l.cards * l.slots) 0 shaped.2

    fits : n ≤ slot_count l
    fits = omega (arith, mul-add-lt x.1 (l.cards * l.slots) 0 l.regions pair.1 shaped.2, shaped.6)

    across : crosses k p n ≡ true
    across = other_region k p (x.1 * (l.cards * l.slots) + 0) n refl (omega (arith, shaped.3, fits))
        (λ e. pair.2 (sym (ap (λ (c : ℕ). c / l.cards) card) ∙ (region_of_quotient l p ∙ (e ∙ div-mul-add x.1 (l.cards * l.slots) 0 shaped.2))))

pub all_in : {A : Type 0} (P : A → Type 0) (xs : List A) → All P xs → (x : A) → In xs x → P x
all_in P [] all x i = absurd i
all_in P (y ∷ ys) all x (inl e) = subst P e (all zero y (omega arith))
all_in P (y ∷ ys) all x (inr i) = all_in P ys (λ j d lt. all (suc j) d (omega (arith, lt))) x i

-- the pairs that a core lists
pub listed_cross : (l : layout.Shape) (k : RaceShape) (pairs : List (ℕ × ℕ)) → k ≡ shape_of l k.parties → IsWholeShape k → All (IsPairOf l) pairs → (x : ℕ × ℕ) → In pairs x → IsPair k x × IsOfCrossing k x
listed_cross l k pairs laid shaped all x i =
    let pair = all_in (IsPairOf l) pairs all x i in
    subst (λ (s : RaceShape). IsPair s x × IsOfCrossing s x) (sym laid) ((pair.0, pair.1), pair_crosses l k.parties x (subst IsWholeShape laid shaped) pair)

-- words and references

word_some : (o : Option ℕ) (n : ℕ) → n ≡ word_of o → n ≢ 0 → (place : ℕ) × (o ≡ Some place) × (n ≡ place + 1)
word_some None n e ne = absurd (ne e)
word_some (Some x) n e ne = (x, refl, e)

pub word_bound : (s : State) (p : ℕ) → IsSound s → p < slot_count s.table.layout → word_of (table.target_of s.table p) ≤ slot_count s.table.layout
word_bound s p parts lt = word_fits (table.target_of s.table p) (slot_count s.table.layout) (parts.places p None (omega (arith, lt, parts.slots)))

-- each reference of a core's table is covered by the marks and the bits that are placed for it

core_covered : (s : State) (l : layout.Shape) (k : RaceShape) (words : List ℕ) → l ≡ s.table.layout → k ≡ shape_of l k.parties → IsSound s → IsWholeShape k
    → ((c : ℕ) → c < k.cards → get_elem? words (mark_word k c) ≡ some (as_number (set_of.contains s.table.pending c)))
    → ((x : ℕ × ℕ) → set_of.contains s.table.recorded x ≡ true → HasBit k words x)
    → AreCovered k s.table words
core_covered s l k words lay laid parts shaped marks on p lt cr =
    let t = s.table in
    let n = word_of (table.target_of t p) in
    let some_n = word_some (table.target_of t p) n refl (crosses_reference k p n cr).0 in
    let same : k ≡ shape_of t.layout k.parties = laid ∙ ap (λ (x : layout.Shape). shape_of x k.parties) lay in
    let back : region_of t.layout some_n.0 ≡ region_at k n = ap (λ (x : RaceShape). some_n.0 / x.span) (sym same) ∙ ap (λ (q : ℕ). q / k.span) (let f : some_n.0 ≡ n - 1 = omega (arith, some_n.2) in f) in
    let card : slot_card k p ≡ layout.card_of t.layout p = ap (λ (x : RaceShape). p / x.size) same in
    elim (parts.cover p some_n.0 (record { refers = some_n.1; across = λ e. crosses_apart k p n cr (ap (λ (x : RaceShape). p / x.span) same ∙ (e ∙ back)) })) [
      | inl pending ↦ inr (marks (slot_card k p) (card_below k p shaped lt) ∙ ap (λ (b : Bool). some (as_number b)) (ap (set_of.contains t.pending) card ∙ pending))
      | inr pair ↦ inl (on _ (subst (λ (y : ℕ × ℕ). set_of.contains t.recorded y ≡ true) (λ i. (sym card i, back i)) pair))
    ]

-- words that have all of a core's table
pub record IsCopy (k : RaceShape) (t : Table) (words : List ℕ) : Type 0 where
  pub sized : length words ≡ word_count k
  pub slots : (p : ℕ) → p < k.slots → get_elem? words p ≡ some (word_of (table.target_of t p))
  pub marks : (c : ℕ) → c < k.cards → get_elem? words (mark_word k c) ≡ some (as_number (set_of.contains t.pending c))
  pub on : (x : ℕ × ℕ) → set_of.contains t.recorded x ≡ true → HasBit k words x
  pub back : (x : ℕ × ℕ) → IsPair k x → HasBit k words x → set_of.contains t.recorded x ≡ true

module _ (s : State) (m : ℕ) (words : List ℕ) (parts : IsSound s) (few : slot_count s.table.layout < 2 ^ 32) (h : IsCopy (shape_of s.table.layout m) s.table words) where
  abbrev t : Table
  t = s.table

  abbrev k : RaceShape
  k = shape_of t.layout m

  abbrev first : Ended
  first = ended t.layout k words

  front_at : (i n : ℕ) → i < slot_count t.layout + card_count t.layout → get_elem? words i ≡ some n → get_elem? first.words i ≡ some n
  front_at i n lt at = at_take words (slot_count t.layout + card_count t.layout) i n lt at

  sized : length first.words ≡ slot_count t.layout + card_count t.layout
  sized = length-take-le (slot_count t.layout + card_count t.layout) words (let e = h.sized in omega arith)

  refs_is : refs_of first ≡ t.refs
  refs_is = ext_get_or None (refs_of first) t.refs (length-map (take (slot_count t.layout) first.words) target_of_word ∙ (length-take-le (slot_count t.layout) first.words (omega (arith, sized)) ∙ sym parts.slots)) (λ p below.
      let lt : p < slot_count t.layout = omega (arith, below, length-map (take (slot_count t.layout) first.words) target_of_word, length-take (slot_count t.layout) first.words) in
      reads_as (refs_of first) p (target_of_word (word_of (table.target_of t p))) None (refs_here first p (word_of (table.target_of t p)) lt (front_at p _ (omega (arith, lt)) (h.slots p lt)))
      ∙ word_target (table.target_of t p) (omega (arith, word_bound s p parts lt, few)))

  mark_at : (c : ℕ) → c < card_count t.layout → (b : Bool) → set_of.contains t.pending c ≡ b → get_elem? first.words (slot_count t.layout + c) ≡ some (as_number b)
  mark_at c lt b e = front_at (slot_count t.layout + c) _ (omega (arith, lt)) (h.marks c lt) ∙ ap (λ (x : Bool). some (as_number x)) e

  flag_back : (c : ℕ) → get_or (marks_of first) c false ≡ true → set_of.contains t.pending c ≡ true
  flag_back c e = elim (cases_lt c (card_count t.layout)) [
    | inl below ↦ some_below (set_of.contains t.pending c) (omega (arith, eqb-true _ 1 (sym (reads_as (marks_of first) c _ false (marks_here first c _ (mark_at c below (set_of.contains t.pending c) refl))) ∙ e)))
    | inr past ↦ absurd (true≢false (sym e ∙ get_or_past (marks_of first) c false (omega (arith, past, length_marks first sized))))
  ]

  copy_at : table_of first ≡ t
  copy_at = λ i. record {
    layout = t.layout;
    refs = refs_is i;
    pending = same_cards (table_of first).pending t.pending (λ c e. flag_back c (pending_flag (marks_of first) c e)) (λ c e. marked_pending (marks_of first) c (marks_here first c 1 (mark_at c (parts.pending c e) true e))) i;
    recorded = same_pairs (table_of first).recorded t.recorded
        (λ x e. let b = listed_set k words x (in_pairs first.pairs x e) in h.back x b.0 b.1)
        (λ x e. let o = parts.recorded x.0 x.1 e in to_pairs first.pairs x (set_listed k words x (o.0, o.1) (h.on x e))) i;
  }

pub copied : (s : State) (l : layout.Shape) (k : RaceShape) (words : List ℕ) → l ≡ s.table.layout → k ≡ shape_of l k.parties → IsSound s → IsWholeShape k → IsCopy k s.table words → table_of (ended l k words) ≡ s.table
copied s l k words lay laid parts shaped copy =
    let path : k ≡ shape_of s.table.layout k.parties = laid ∙ ap (λ (x : layout.Shape). shape_of x k.parties) lay in
    (λ i. table_of (ended (lay i) (path i) words)) ∙ copy_at s k.parties words parts (let e : k.slots ≡ slot_count s.table.layout = ap (λ (x : RaceShape). x.slots) path in let f = shaped.3 in omega (arith, e, f)) (subst (λ (q : RaceShape). IsCopy q s.table words) path copy)

-- slots that refer to what they refer to in a table hold no data
pub words_placed : (t : Table) (l : layout.Shape) (k : RaceShape) (old new : List ℕ) → l ≡ t.layout → k ≡ shape_of l k.parties → ArePlaced k t old new k.slots → HasWordsOf t new
words_placed t l k old new lay laid placed p lt =
    let slots : k.slots ≡ slot_count t.layout = ap (λ (s : RaceShape). s.slots) laid ∙ ap slot_count lay in
    let low : p < k.slots = omega (arith, lt, slots) in
    placed.slots p low low

-- the three steps, from a heap of nulls
module _ (s : State) (l : layout.Shape) (k : RaceShape) (old a b : List ℕ) (pairs : List (ℕ × ℕ)) (lay : l ≡ s.table.layout) (laid : k ≡ shape_of l k.parties) (parts : IsSound s) (shaped : IsWholeShape k)
    (null : old ≡ zeros (word_count k)) (recorded : set_of.from_list pairs ≡ s.table.recorded) (notes : Notes k old a pairs) where
  zero_is : (i : ℕ) → i < k.slots + k.cards → get_elem? a i ≡ some 0
  zero_is i lt = notes.front i lt ∙ (ap (λ (ws : List ℕ). get_elem? ws i) null ∙ zero_at (word_count k) i (omega (arith, lt)))

  bit_on : (x : ℕ × ℕ) → set_of.contains s.table.recorded x ≡ true → HasBit k a x
  bit_on x e = notes.has x (contains_in pairs x (in_pairs pairs x (subst (λ r. set_of.contains r x ≡ true) (sym recorded) e)))

  bit_back : (x : ℕ × ℕ) → IsPair k x → HasBit k a x → set_of.contains s.table.recorded x ≡ true
  bit_back x pair h = ⊎_elim
      (λ (o : HasBit k old x). absurd (no_bit k (zeros (word_count k)) x (zeros_read (word_count k) _) (subst (λ (ws : List ℕ). HasBit k ws x) null o)))
      (λ (i : In pairs x). subst (λ r. set_of.contains r x ≡ true) recorded (to_pairs pairs x (in_contains pairs x i)))
      (notes.only x pair.0 h)

  module _ (marked : AreMarked k s.table a b k.cards) where
    pub null_slots : (p : ℕ) → p < k.slots → get_elem? b p ≡ some 0
    null_slots p lt = marked.slots p lt ∙ zero_is p (omega (arith, lt))

    marks_are : (c : ℕ) → c < k.cards → get_elem? b (mark_word k c) ≡ some (as_number (set_of.contains s.table.pending c))
    marks_are c lt = marked.marks c lt lt

    pub slots_covered : AreCovered k s.table b
    slots_covered = core_covered s l k b lay laid parts shaped marks_are (λ x e. marked.bits.on x (bit_on x e))

    pub table_copied : (new : List ℕ) → length new ≡ word_count k → ArePlaced k s.table b new k.slots → table_of (ended l k new) ≡ s.table
    table_copied new sized placed = copied s l k new lay laid parts shaped (record {
      sized = sized;
      slots = λ p lt. placed.slots p lt lt;
      marks = λ c lt. placed.marks c lt ∙ marks_are c lt;
      on = λ x e. placed.bits.on x (marked.bits.on x (bit_on x e));
      back = λ x pair e. bit_back x pair (marked.bits.back x pair (placed.bits.back x pair e));
    })
