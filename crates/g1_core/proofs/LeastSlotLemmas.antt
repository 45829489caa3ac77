-- The least slot that enters a region, and what is read to find it.
use Rattle.std.specs.Prelude.{◌≡◌, ◌≢◌, ◌<◌, ◌≤◌, ◌+◌, ◌-◌, ◌*◌, ◌∷◌, ◌++◌}
use Rattle.g1_core.specs.{◌∙◌, inl, inr, ℕ, min, List, [], length, get_or, Option, Some, None, sym, ap, subst, arith, take, All, Contains, slice_get, mul-le-mul_right, cases_lt, Contains-append_cases, get_or_from_slice_get, IsShape, slot_count, card_count, card_of, region_of_card, slot_at, PairSet, IsInRow, row_of_card, row_of_slot, card_of_below, region_of_slot, Cells, Enters, table_from, IsLeastOn, AreRead}
use Rattle.g1_core.specs.Table.{Table}
use Rattle.std.proofs.lemmas.Nat.{row_fits}
use Rattle.g1_core.proofs.MarkLemmas.{one_of, itself}
use Rattle.g1_core.proofs.TableLemmas.{is_slot}
use Rattle.g1_core.proofs.WalkLemmas.{take_next}

-- reads add up
pub read_more : (a b c : Cells) (m n k : ℕ) → AreRead a b m → AreRead b c n → m + n ≤ k → AreRead a c k
read_more a b c m n k first second fits = record {
  cells = second.cells ∙ ap (λ (h : Cells). let r : Cells = record { layout = h.layout; refs = h.refs; marks = h.marks; reads = c.reads } in r) first.cells;
  grown = omega (arith, first.grown, second.grown);
  few = omega (arith, first.few, second.few);
}

pub read_at_most : (a b : Cells) (m k : ℕ) → AreRead a b m → m ≤ k → AreRead a b k
read_at_most a b m k read fits = record { cells = read.cells; grown = read.grown; few = omega (arith, read.few) }

-- reads leave the table
pub read_table : (heap now : Cells) (most : ℕ) (pairs : PairSet) → AreRead heap now most → table_from now pairs ≡ table_from heap pairs
read_table heap now most pairs read = ap (λ (h : Cells). table_from h pairs) read.cells

-- no slot of the card before this offset enters the region
abbrev pub NoneBefore : Table → ℕ → ℕ → ℕ → Type 0
NoneBefore t card region offset = (k : ℕ) → k < offset → Enters t (slot_at t.layout card k) region → ⊥

-- one card
module _ (t : Table) (shape : IsShape t.layout) (card region : ℕ) where
  -- no slot of a card in the region enters it
  pub own_card : region_of_card t.layout card ≡ region → IsLeastOn t (card ∷ []) region None
  own_card own slot on e = e.outside (sym (region_of_slot t.layout slot) ∙ ap (region_of_card t.layout) (one_of (card_of t.layout slot) card on) ∙ own)

  -- a slot on the card stands at an offset of it
  at_offset : (slot : ℕ) → Contains (card ∷ []) (card_of t.layout slot) → (k : ℕ) × (k < t.layout.slots) × (slot ≡ slot_at t.layout card k)
  at_offset slot on = let r : IsInRow t.layout card slot = row_of_card t.layout card slot shape (one_of (card_of t.layout slot) card on) in (slot - card * t.layout.slots, omega (arith, r.from, r.below), omega (arith, r.from))

  pub card_none : (end : ℕ) → t.layout.slots ≤ end → NoneBefore t card region end → IsLeastOn t (card ∷ []) region None
  card_none end whole none slot on e = let o = at_offset slot on in none o.0 (omega (arith, o.1, whole)) (subst (λ (s : ℕ). Enters t s region) o.2 e)

  pub card_first : (offset : ℕ) → NoneBefore t card region offset → Enters t (slot_at t.layout card offset) region → IsLeastOn t (card ∷ []) region (Some (slot_at t.layout card offset))
  card_first offset none enters = (
    enters,
    λ other on e. let o = at_offset other on in elim (cases_lt o.0 offset) [
      | inl less ↦ absurd (none o.0 less (subst (λ (s : ℕ). Enters t s region) o.2 e))
      | inr past ↦ omega (arith, o.2)
    ],
  )

-- What a walk over some cards has found: no slot on them before a card enters the region, and the least slot from that card on is known.
abbrev pub IsFoundFrom : Table → ℕ → ℕ → Option ℕ → Type 0
IsFoundFrom t region past None = past ≡ card_count t.layout
IsFoundFrom t region past (Some slot) = Enters t slot region × ((other : ℕ) → past ≤ card_of t.layout other → Enters t other region → slot ≤ other)

pub record IsLeastFrom (t : Table) (cards : List ℕ) (region past : ℕ) (least : Option ℕ) : Type 0 where
  pub before : (slot : ℕ) → Contains cards (card_of t.layout slot) → card_of t.layout slot < past → Enters t slot region → ⊥
  pub found : IsFoundFrom t region past least

module _ (t : Table) (shape : IsShape t.layout) (region : ℕ) where
  -- of all the cards it is the least slot
  pub from_all : (cards : List ℕ) (past : ℕ) (least : Option ℕ) → length t.refs ≡ slot_count t.layout → IsLeastFrom t cards region past least → IsLeastOn t cards region least
  from_all cards past None many h = λ slot on e.
      let below : slot < length t.refs = is_slot t.refs slot e.place e.refers in
      h.before slot on (omega (arith, h.found, card_of_below t.layout slot shape (omega arith))) e
  from_all cards past (Some slot) many h = (
    h.found.0,
    λ other on e. elim (cases_lt (card_of t.layout other) past) [
      | inl less ↦ absurd (h.before other on less e)
      | inr from ↦ h.found.1 other from e
    ],
  )

  -- the least slot of a card is the least from that card on
  least_up : (card slot : ℕ) → card_of t.layout slot ≡ card → IsLeastOn t (card ∷ []) region (Some slot) → (other : ℕ) → card ≤ card_of t.layout other → Enters t other region → slot ≤ other
  least_up card slot on first other from e = elim (cases_lt card (card_of t.layout other)) [
    | inl less ↦
        omega (arith, (row_of_card t.layout card slot shape on).below, (row_of_slot t.layout other shape).from, row_fits card t.layout.slots (card_of t.layout other) t.layout.slots less (omega arith))
    | inr past ↦ let same : card_of t.layout other ≡ card = omega arith in first.1 other (itself (card_of t.layout other) card same) e
  ]

  module _ (cards : List ℕ) (card past : ℕ) (least : Option ℕ) (h : IsLeastFrom t cards region past least) where
    -- one more card, of which no slot before the end enters the region
    pub from_passed : ((slot : ℕ) → card_of t.layout slot ≡ card → card < past → Enters t slot region → ⊥) → IsLeastFrom t (cards ++ card ∷ []) region past least
    from_passed never = record {
      before = λ slot on less e. elim (Contains-append_cases cards (card ∷ []) (card_of t.layout slot) on) [
        | inl c ↦ h.before slot c less e
        | inr c ↦ let same : card_of t.layout slot ≡ card = one_of (card_of t.layout slot) card c in never slot same (omega arith) e
      ];
      found = h.found;
    }

    -- or one that has the least slot
    pub from_card : card < past → (slot : ℕ) → card_of t.layout slot ≡ card → IsLeastOn t (card ∷ []) region (Some slot) → IsLeastFrom t (cards ++ card ∷ []) region card (Some slot)
    from_card nearer slot on first = record {
      before = λ other there less e. elim (Contains-append_cases cards (card ∷ []) (card_of t.layout other) there) [
        | inl c ↦ h.before other c (omega arith) e
        | inr c ↦ let same : card_of t.layout other ≡ card = one_of (card_of t.layout other) card c in absurd (omega arith)
      ];
      found = (first.0, least_up card slot on first);
    }

  -- the least slot of the card of the least number is that of all the cards
  pub least_first : (cards : List ℕ) (first slot : ℕ) → All (λ card. first ≤ card) cards → card_of t.layout slot ≡ first → IsLeastOn t (first ∷ []) region (Some slot) → IsLeastOn t cards region (Some slot)
  least_first cards first slot all on least = (least.0, λ other there e. least_up first slot on least other (subst (λ (card : ℕ). first ≤ card) there.2 (all there.0 (card_of t.layout other) there.1)) e)

-- the next card of a list, which is not read, or which the heap is read for
module _ (heap now : Cells) (most : ℕ) (read : AreRead heap now most) (pairs : PairSet) (shape : IsShape heap.layout) (region : ℕ) (cards : List ℕ) (index card : ℕ) (at : slice_get cards index ≡ Some card) (past : ℕ) (least : Option ℕ)
    (h : IsLeastFrom (table_from heap pairs) (take index cards) region past least) (past' : ℕ) (least' : Option ℕ) where
  as_next : (p : ℕ) (o : Option ℕ) → past' ≡ p → least' ≡ o → IsLeastFrom (table_from heap pairs) (take index cards ++ card ∷ []) region p o → IsLeastFrom (table_from heap pairs) (take (index + 1) cards) region past' least'
  as_next p o same same_least found = rw (same, same_least, take_next cards index card at) found

  here : (o : Option ℕ) → ((pairs : PairSet) → IsLeastOn (table_from now pairs) (card ∷ []) region o) → IsLeastOn (table_from heap pairs) (card ∷ []) region o
  here o on = subst (λ (t : Table). IsLeastOn t (card ∷ []) region o) (read_table heap now most pairs read) (on pairs)

  pub next_past : past ≤ card → past' ≡ past → least' ≡ least → IsLeastFrom (table_from heap pairs) (take (index + 1) cards) region past' least'
  next_past beyond same same_least = as_next past least same same_least (from_passed (table_from heap pairs) shape region (take index cards) card past least h (λ slot on less e. absurd (omega arith)))

  pub next_known : IsLeastOn (table_from heap pairs) (card ∷ []) region None → past' ≡ past → least' ≡ least → IsLeastFrom (table_from heap pairs) (take (index + 1) cards) region past' least'
  next_known none same same_least =
      as_next past least same same_least (from_passed (table_from heap pairs) shape region (take index cards) card past least h (λ slot on less e. none slot (itself (card_of heap.layout slot) card on) e))

  pub next_none : ((pairs : PairSet) → IsLeastOn (table_from now pairs) (card ∷ []) region None) → past' ≡ past → least' ≡ least → IsLeastFrom (table_from heap pairs) (take (index + 1) cards) region past' least'
  next_none none = next_known (here None none)

  pub next_some : card < past → (slot : ℕ) → card_of now.layout slot ≡ card → ((pairs : PairSet) → IsLeastOn (table_from now pairs) (card ∷ []) region (Some slot)) → past' ≡ card → least' ≡ Some slot
      → IsLeastFrom (table_from heap pairs) (take (index + 1) cards) region past' least'
  next_some nearer slot on first same same_least =
      as_next card (Some slot) same same_least
      (from_card (table_from heap pairs) shape region (take index cards) card past least h nearer slot (sym (ap (λ (h : Cells). card_of h.layout slot) read.cells) ∙ on) (here (Some slot) first))

pub read_next : (heap now new : Cells) (index : ℕ) → AreRead heap now (index * heap.layout.slots) → AreRead now new now.layout.slots → AreRead heap new ((index + 1) * heap.layout.slots)
read_next heap now new index before here =
    let slots : now.layout.slots ≡ heap.layout.slots = ap (λ (h : Cells). h.layout.slots) before.cells in
    read_more heap now new (index * heap.layout.slots) now.layout.slots ((index + 1) * heap.layout.slots) before here (omega arith)

-- what is read for the cards up to an index but one of them
abbrev pub before_but : ℕ → ℕ → ℕ
before_but index at = index - min 1 (index - at)

module _ (heap now : Cells) (cards : List ℕ) (first : ℕ) (there : Contains cards first) (index : ℕ) (before : AreRead heap now (before_but index there.0 * heap.layout.slots)) where
  pub read_other : (card : ℕ) (new : Cells) → slice_get cards index ≡ Some card → card ≢ first → AreRead now new now.layout.slots → AreRead heap new (before_but (index + 1) there.0 * heap.layout.slots)
  read_other card new at other here =
      let apart : there.0 ≢ index = λ e. other (sym (get_or_from_slice_get cards index card first at) ∙ ap (λ (k : ℕ). get_or cards k first) (sym e) ∙ there.2) in
      let more : before_but index there.0 + 1 ≡ before_but (index + 1) there.0 = omega arith in
      subst (λ (n : ℕ). AreRead heap new (n * heap.layout.slots)) more (read_next heap now new (before_but index there.0) before here)

  pub read_skipped : AreRead heap now (before_but (index + 1) there.0 * heap.layout.slots)
  read_skipped =
      let fits : before_but index there.0 ≤ before_but (index + 1) there.0 = omega arith in
      read_at_most heap now (before_but index there.0 * heap.layout.slots) (before_but (index + 1) there.0 * heap.layout.slots) before (mul-le-mul_right heap.layout.slots fits)

  pub read_but_one : length cards ≤ index → index ≤ length cards → AreRead heap now ((length cards - 1) * heap.layout.slots)
  read_but_one past within =
      let all : before_but index there.0 ≡ length cards - 1 = omega (arith, there.1) in
      subst (λ (n : ℕ). AreRead heap now (n * heap.layout.slots)) all before

-- the layout is the same
pub read_layout : (heap now : Cells) (most : ℕ) → AreRead heap now most → heap.layout ≡ now.layout
read_layout heap now most read = sym (ap (λ (h : Cells). h.layout) read.cells)
