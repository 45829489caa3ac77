-- A store at a pause as a step of the plain table; one that dirties its card sets its flag before.
use Rattle.std.specs.Prelude.{◌≤◌, ◌^◌, ◌≡◌, ◌≢◌, ◌+◌, ◌-◌, ◌*◌, ◌/◌, ◌<◌}
use Rattle.g1_race.specs.{SameBits, ℕ, cond, Bool, true, List, set, take, map, get_or, Option, None, refl, sym, ap, ◌∙◌, subst, inl, inr, ⊎_elim, arith, word_of, one_word, Pause, table_at, SlotsBecome, StoresAt, StoresDataAt, StoresWordAt, ne_eqb, some, get_elem?, nat_cmp, eq_by_cmp, Equal-is, take-set-lt, cases_Bool, cases_eq, or_cases, or_left, or_right, nat_cmp_total, eq_by_cmp_equiv, map-set, exact_unsigned, set_else, set_here, Kind, SameRegion, Null, AlreadyDirty, Logged, slot_count, region_of, CardSet, Table, IsPending, IsStep, kind_of, pending_after, stored, store_entry, refined_none, none_refinable, IfSome, RaceShape, IsBegun, IsWholeShape, slot_card, crosses, mark_word, started, shape_of, ended, refs_of, table_of, target_of_word, unfilled, mark_apart, mul-add-lt, at_take, crosses_reference, bit_as, card_below, same_bits, IsDirtied}
use Rattle.std.specs.FinSet as fin
use Rattle.g1_layout.specs.Shape as layout
use Rattle.g1_race.proofs.Ends.{target_data, crosses_apart, recorded_set, set_recorded, target_some, word_gives}
use Rattle.g1_race.proofs.PauseTable.{pending_word, refs_same, slots_are, table_is, word_pending}
use Rattle.g1_race.proofs.FlagWords.{flag_ended}

pub store_step : (t new : Table) (caller slot : ℕ) (target : Option ℕ) (kind : Kind) → slot < slot_count t.layout → IfSome target (λ place. place < slot_count t.layout) → kind ≡ kind_of t slot target → new ≡ stored t slot target → IsStep t (store_entry caller slot target (unfilled kind)) new
store_step t new caller slot target kind lt within is e = record { allowed = record { numbers = (lt, within); refines = none_refinable (stored t slot target); answers = (is, λ h. refl) }; after = e ∙ sym (refined_none (stored t slot target)) }

-- the slots of a region

pub slot_in : (k : RaceShape) (region i : ℕ) → IsWholeShape k → region < k.regions → i < k.span → region * k.span + i < k.slots
slot_in k region i shaped lt below = omega (arith, mul-add-lt region k.span i k.regions lt below, shaped.6)

-- what a slot with this word refers to
pub slot_gives : (k : RaceShape) (l : layout.Shape) (words : List ℕ) (p n : ℕ) → k ≡ shape_of l k.parties → p < k.slots → get_elem? words p ≡ some n → get_or (refs_of (ended l k words)) p None ≡ target_of_word n
slot_gives k l words p n laid lt at = let slots : k.slots ≡ slot_count l = ap (λ (s : RaceShape). s.slots) laid in
    word_gives (ended l k words) p n (omega (arith, lt, slots)) (at_take words (k.slots + k.cards) p n (omega (arith, lt)) at)

-- a store that dirties no card leaves what is pending
pending_stays : (kind : Kind) (pending : CardSet) (card : ℕ) → (kind ≡ Logged → ⊥) → pending_after kind pending card ≡ pending
pending_stays Logged pending card quiet = absurd (quiet refl)
pending_stays SameRegion pending card quiet = refl
pending_stays Null pending card quiet = refl
pending_stays AlreadyDirty pending card quiet = refl

module _ (k : RaceShape) (l : layout.Shape) (laid : k ≡ shape_of l k.parties) (p : ℕ) (lt : p < k.slots) (target : Option ℕ) (n : ℕ) (back : target_of_word n ≡ target) where
  -- the kind of the store

  pub kind_null : (t : Table) → n ≡ 0 → kind_of t p target ≡ Null
  kind_null t e = ap (kind_of t p) (sym back ∙ ap target_of_word e)

  pub kind_data : (t : Table) → 2 ^ 32 ≤ n → kind_of t p target ≡ Null
  kind_data t le = ap (kind_of t p) (sym back ∙ target_data n le)

  abbrev kind_at : List ℕ → Bool → Kind
  kind_at words b = cond b SameRegion (cond (fin.contains (table_of (ended l k words)).pending (layout.card_of l p)) AlreadyDirty Logged)

  pub kind_across : (words : List ℕ) → crosses k p n ≡ true → kind_of (table_of (ended l k words)) p target ≡ cond (fin.contains (table_of (ended l k words)).pending (layout.card_of l p)) AlreadyDirty Logged
  kind_across words cr = ap (kind_of (table_of (ended l k words)) p) (sym back ∙ target_some n (crosses_reference k p n cr))
      ∙ ap (kind_at words) (ne_eqb (region_of l p) (region_of l (n - 1)) (crosses_apart (shape_of l k.parties) p n (subst (λ (s : RaceShape). crosses s p n ≡ true) laid cr)))

  -- the slot is written

  pub written_refs : (words : List ℕ) → refs_of (ended l k (set words p n)) ≡ set (refs_of (ended l k words)) p target
  written_refs words =
      let front : List ℕ = take (k.slots + k.cards) words in
      ap (λ (ws : List ℕ). map target_of_word (take (slot_count l) ws)) (take-set-lt (k.slots + k.cards) words p n (omega (arith, lt)))
      ∙ (ap (map target_of_word) (take-set-lt (slot_count l) front p n (omega (arith, lt, slots_are k l laid)))
      ∙ (map-set target_of_word (take (slot_count l) front) p n ∙ ap (λ (o : Option ℕ). set (map target_of_word (take (slot_count l) front)) p o) back))

  same_mark : (words : List ℕ) (n c : ℕ) → get_elem? (set words p n) (mark_word k c) ≡ get_elem? words (mark_word k c)
  same_mark words n c = set_else words p (mark_word k c) n (λ e. mark_apart k p c lt e)

  quiet_table : (words : List ℕ) → IsBegun (started k words) → IsBegun (started k (set words p n)) → (kind_of (table_of (ended l k words)) p target ≡ Logged → ⊥) → table_of (ended l k (set words p n)) ≡ stored (table_of (ended l k words)) p target
  quiet_table words h h' quiet = let plain = pending_stays (kind_of (table_of (ended l k words)) p target) (table_of (ended l k words)).pending (layout.card_of l p) quiet in
      table_is k l laid (set words p n) (stored (table_of (ended l k words)) p target) h' refl (written_refs words)
      (λ c q. subst (λ (s : CardSet). fin.contains s c ≡ true) (sym plain) (let w = pending_word k l laid (set words p n) c q in word_pending k l laid words c w.0 (sym (same_mark words n c) ∙ w.1)))
      (λ c q. let w = pending_word k l laid words c (subst (λ (s : CardSet). fin.contains s c ≡ true) plain q) in word_pending k l laid (set words p n) c w.0 (same_mark words n c ∙ w.1))
      (λ x pair b. set_recorded k l words laid h x pair (bit_as k (set words p n) words x (λ y. sym (same_bits k words p n (omega (arith, lt)) y)) b))
      (λ x r. let s = recorded_set k l words laid h x r in (s.0, bit_as k words (set words p n) x (same_bits k words p n (omega (arith, lt))) s.1))

  card_is : slot_card k p ≡ layout.card_of l p
  card_is = ap (λ (s : RaceShape). p / s.size) laid

  -- its card becomes dirty
  module _ (words : List ℕ) (h : IsBegun (started k words)) (h' : IsBegun (started k (set (set words (mark_word k (slot_card k p)) 1) p n))) where
    abbrev card : ℕ
    card = slot_card k p

    abbrev mid : List ℕ
    mid = set words (mark_word k card) 1

    abbrev last : List ℕ
    last = set mid p n

    abbrev was : Table
    was = table_of (ended l k words)

    below : card < k.cards
    below = card_below k p h.shaped lt

    bits : SameBits k words last
    bits x = same_bits k mid p n (omega (arith, lt)) x ∙ same_bits k words (mark_word k card) 1 (omega (arith, below)) x

    pub logged_table : kind_of (table_of (ended l k words)) p target ≡ Logged → table_of (ended l k last) ≡ stored (table_of (ended l k words)) p target
    logged_table is = table_is k l laid last (stored was p target) h' refl (written_refs mid ∙ ap (λ (rs : List (Option ℕ)). set rs p target) (refs_same k l laid words mid (λ q low. set_else words (mark_word k card) q 1 (λ e. absurd (omega (arith, e, low))))))
        (λ c q. subst (λ (x : Kind). fin.contains (pending_after x was.pending (layout.card_of l p)) c ≡ true) (sym is) (joined c q))
        (λ c q. left c (subst (λ (x : Kind). fin.contains (pending_after x was.pending (layout.card_of l p)) c ≡ true) is q))
        (λ x pair b. set_recorded k l words laid h x pair (bit_as k last words x (λ y. sym (bits y)) b))
        (λ x r. let s = recorded_set k l words laid h x r in (s.0, bit_as k words last x bits s.1))
      where
        same : (c : ℕ) → c ≢ card → get_elem? last (mark_word k c) ≡ get_elem? words (mark_word k c)
        same c ne = same_mark mid n c ∙ set_else words (mark_word k card) (mark_word k c) 1 (λ e. ne (omega (arith, e)))

        dirty : get_elem? last (mark_word k card) ≡ some 1
        dirty = same_mark mid n card ∙ set_here words (mark_word k card) 1 (omega (arith, below, h.sized))

        joined : (c : ℕ) → IsPending (table_of (ended l k last)) c → fin.contains (fin.insert was.pending (layout.card_of l p)) c ≡ true
        joined c q = fin.contains-insert nat_cmp_total was.pending (layout.card_of l p) c ∙ elim (cases_eq c card) [
          | inl e ↦ or_left _ _ (ap (λ (x : ℕ). eq_by_cmp nat_cmp x (layout.card_of l p)) (e ∙ card_is) ∙ (eq_by_cmp_equiv nat_cmp_total).refl (layout.card_of l p))
          | inr ne ↦ or_right _ _ (let w = pending_word k l laid last c q in word_pending k l laid words c w.0 (sym (same c ne) ∙ w.1))
        ]

        left : (c : ℕ) → fin.contains (fin.insert was.pending (layout.card_of l p)) c ≡ true → IsPending (table_of (ended l k last)) c
        left c q = elim (cases_eq c card) [
          | inl e ↦ subst (λ (x : ℕ). IsPending (table_of (ended l k last)) x) (sym e) (word_pending k l laid last card below dirty)
          | inr ne ↦ elim (or_cases _ _ (sym (fin.contains-insert nat_cmp_total was.pending (layout.card_of l p) c) ∙ q)) [
            | inl eq ↦ absurd (ne (exact_unsigned c (layout.card_of l p) ((Equal-is (nat_cmp c (layout.card_of l p))).0 eq) ∙ sym card_is))
            | inr old ↦ let w = pending_word k l laid words c old in word_pending k l laid last c w.0 (same c ne ∙ w.1)
          ]
        ]

  -- a store as a whole, from a table that the words make

  -- where a store dirties nothing, a reference that crosses regions has its card dirty
  pub quiet_marked : (words : List ℕ) → (kind_of (table_of (ended l k words)) p target ≡ Logged → ⊥) → crosses k p n ≡ true → get_elem? words (mark_word k (slot_card k p)) ≡ some 1
  quiet_marked words quiet cr = elim (cases_Bool (fin.contains (table_of (ended l k words)).pending (layout.card_of l p))) [
    | inl dirty ↦ (pending_word k l laid words (slot_card k p) (subst (λ (c : ℕ). fin.contains (table_of (ended l k words)).pending c ≡ true) (sym card_is) dirty)).1
    | inr clean ↦ absurd (quiet (kind_across words cr ∙ ap (λ (b : Bool). cond b AlreadyDirty Logged) clean))
  ]

  pub quiet_store : (t : Table) (words after : List ℕ) → table_of (ended l k words) ≡ t → after ≡ set words p n → IsBegun (started k words) → IsBegun (started k after) → (kind : Kind) → kind_of (table_of (ended l k words)) p target ≡ kind → (kind ≡ Logged → ⊥) → (kind ≡ kind_of t p target) × (table_of (ended l k after) ≡ stored t p target)
  quiet_store t words after was is h h' kind kind_is plain = (
    sym kind_is ∙ ap (λ (x : Table). kind_of x p target) was,
    ap (λ (ws : List ℕ). table_of (ended l k ws)) is ∙ (quiet_table words h (subst (λ (ws : List ℕ). IsBegun (started k ws)) is h') (λ e. plain (sym kind_is ∙ e)) ∙ ap (λ (x : Table). stored x p target) was),
  )

  pub logged_store : (t : Table) (words after : List ℕ) → table_of (ended l k words) ≡ t → after ≡ set (set words (mark_word k (slot_card k p)) 1) p n → IsBegun (started k words) → IsBegun (started k after) → kind_of (table_of (ended l k words)) p target ≡ Logged → table_of (ended l k after) ≡ stored t p target
  logged_store t words after was is h h' kind_is =
      ap (λ (ws : List ℕ). table_of (ended l k ws)) is ∙ (logged_table words h (subst (λ (ws : List ℕ). IsBegun (started k ws)) is h') kind_is ∙ ap (λ (x : Table). stored x p target) was)

module _ (k : RaceShape) (l : layout.Shape) (laid : k ≡ shape_of l k.parties) (p : ℕ) (lt : p < k.slots) (target : Option ℕ) (n : ℕ) (back : target_of_word n ≡ target) where
  pub dirtied_here : (seen new : List ℕ) (card : ℕ) → card ≡ slot_card k p → IsDirtied k seen new card → get_elem? new (mark_word k (slot_card k p)) ≡ some 1
  dirtied_here seen new card is d =
      let low = card_below k p d.begun.shaped lt in
      ap (λ (ws : List ℕ). get_elem? ws (mark_word k (slot_card k p))) (d.marked ∙ ap (λ (c : ℕ). set d.mid (mark_word k c) 1) is) ∙ set_here d.mid (mark_word k (slot_card k p)) 1 (omega (arith, d.begun.sized, low))

  pub dirtied_store : (words new after : List ℕ) (card : ℕ) → card ≡ slot_card k p → IsDirtied k words new card → kind_of (table_of (ended l k words)) p target ≡ Logged
      → after ≡ set new p n → IsBegun (started k after) → table_of (ended l k after) ≡ stored (table_of (ended l k words)) p target
  dirtied_store words new after card is d kind e h' =
      let same : table_of (ended l k d.mid) ≡ table_of (ended l k words) = ap table_of (flag_ended k l words d.mid card d.flagged) in
      logged_store k l laid p lt target n back (table_of (ended l k words)) d.mid after same
      (e ∙ ap (λ (ws : List ℕ). set ws p n) (d.marked ∙ ap (λ (c : ℕ). set d.mid (mark_word k c) 1) is)) d.begun h' (ap (λ (t : Table). kind_of t p target) same ∙ kind)
