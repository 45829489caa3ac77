-- What a clear at a pause reads and does.
use Rattle.std.specs.Prelude.{◌≡◌, ◌≢◌, ◌+◌, ◌-◌, ◌*◌, ◌/◌, ◌<◌, ◌≤◌}
use Rattle.g1_race.specs.{ℕ, not, eqb, List, length, set, get_or, length-set, eq-eqb, Some, None, refl, sym, ap, ◌∙◌, subst, inl, inr, arith, some, get_elem?, cases_eq, eqb-true, not-false, take-set-le, get_or-set_same, get_or-set_other, div-mul-add, bit_at, set_else, Enters, Table, clear_entry, RaceShape, IsBegun, IsWholeShape, HasBit, bit_word, bit_index, slot_card, flag, front, mark_word, word_count, region_at, started, shape_of, ended, table_of, Clear, Cleared, Pending, StillReferenced, IsStep, settled, refined_none, none_refinable, Into, IsLeastInto, IsEmptied, marked_cards, no_bit, at_take, at_untake, reads_as, crosses_reference, card_in_row, crossing_pair, in_row, flag_card, word_in_row}
use Rattle.std.specs.FinSet as fin
use Rattle.g1_layout.specs.Shape as layout
use Rattle.g1_core.specs.declared.entry.Reply.TheVariants as reply
use Rattle.g1_race.proofs.AtPause.{begun_front}
use Rattle.g1_race.proofs.Ends.{crosses_apart, crossing_back, word_refers}
use Rattle.g1_race.proofs.Forgetting.{slot_back, retained_is}
use Rattle.g1_race.proofs.PauseTable.{none_pending, pending_len}

-- a word of the region's row

abbrev pub row_word : RaceShape → ℕ → ℕ → ℕ
row_word k region i = k.slots + k.cards + (region * k.row + i)

row_apart : (k : RaceShape) (x : ℕ × ℕ) (region i : ℕ) → IsWholeShape k → x.0 < k.cards → x.1 ≢ region → i < k.row → bit_word k x ≢ row_word k region i
row_apart k x region i shaped card ne lt e = ne (
    let low : x.1 * k.row + x.0 / 64 ≡ region * k.row + i = (let n : ℕ = x.1 * k.row + x.0 / 64 in let m : ℕ = region * k.row + i in let g : k.slots + k.cards + n ≡ k.slots + k.cards + m = e in let goal : n ≡ m = omega arith in goal) in
    sym (div-mul-add x.1 k.row (x.0 / 64) (card_in_row k x.0 shaped card)) ∙ (ap (λ (n : ℕ). n / k.row) low ∙ div-mul-add region k.row i lt))

pub row_below : (k : RaceShape) (region i : ℕ) → IsWholeShape k → region ≤ k.regions → i < k.row → row_word k region i < word_count k
row_below k region i shaped le below = word_in_row k region i shaped le below

-- a word more of the row is 0
emptied_on : (k : RaceShape) (old words new : List ℕ) (region i : ℕ) → IsEmptied k old words region i → front k new ≡ front k words → ((x : ℕ × ℕ) → x.0 < k.cards → x.1 ≢ region → HasBit k words x → HasBit k new x) → ((x : ℕ × ℕ) → HasBit k new x → HasBit k words x)
    → ((x : ℕ × ℕ) → bit_word k x ≡ row_word k region i → HasBit k new x → ⊥) → IsEmptied k old new region (i + 1)
emptied_on k old words new region i g same kept back gone = record {
  front = same ∙ g.front;
  kept = λ x pair ne b. kept x pair ne (g.kept x pair ne b);
  only = λ x pair b. g.only x pair (back x b);
  clear = λ x pair e up b. elim (cases_eq (x.0 / 64) i) [
    | inl f ↦ gone x (λ j. k.slots + k.cards + (e j * k.row + f j)) b
    | inr ne ↦ g.clear x pair e (omega (arith, up, ne)) (back x b)
  ];
}

module _ (k : RaceShape) (words : List ℕ) (region i : ℕ) (h : IsBegun (started k words)) (lt : region ≤ k.regions) (below : i < k.row) where
  abbrev less : List ℕ
  less = set words (row_word k region i) 0

  same_word : (x : ℕ × ℕ) → bit_word k x ≢ row_word k region i → get_or less (bit_word k x) 0 ≡ get_or words (bit_word k x) 0
  same_word x ne = get_or-set_other words (row_word k region i) (bit_word k x) 0 0 ne

  bit_on : (x : ℕ × ℕ) → bit_word k x ≢ row_word k region i → HasBit k words x → HasBit k less x
  bit_on x ne b = ap (λ (n : ℕ). bit_at n (bit_index k x)) (same_word x ne) ∙ b

  gone : (x : ℕ × ℕ) → bit_word k x ≡ row_word k region i → HasBit k less x → ⊥
  gone x e = no_bit k less x (ap (λ (j : ℕ). get_or less j 0) e ∙ get_or-set_same words (row_word k region i) 0 0 (omega (arith, h.sized, row_below k region i h.shaped lt below)))

  bit_back : (x : ℕ × ℕ) → HasBit k less x → HasBit k words x
  bit_back x b = elim (cases_eq (bit_word k x) (row_word k region i)) [
    | inl e ↦ absurd (gone x e b)
    | inr ne ↦ ap (λ (n : ℕ). bit_at n (bit_index k x)) (sym (same_word x ne)) ∙ b
  ]

  pub begun_emptied : ((p : ℕ) → Into k words region p → ⊥) → (region ≡ k.regions → (c : ℕ) → c < k.cards → get_elem? words (mark_word k c) ≡ some 1 → ⊥) → IsBegun (started k less)
  begun_emptied none clean = begun_front k words less h (length-set words (row_word k region i) 0) (λ p low. set_else words (row_word k region i) p 0 (λ e. absurd (omega (arith, e, low))))
      (λ p n low at cr. bit_on _ (row_apart k (slot_card k p, region_at k n) region i h.shaped (crossing_pair k p n h.shaped low (h.bounded p n low at) cr).0 (λ e. none p (n, low, at, cr, e)) below))
      (λ x pair b. inl (bit_back x b)) (λ c low m. bit_on (flag k c) (row_apart k (flag k c) region i h.shaped (flag_card k c low) (λ e. clean (sym e) c low m) below))

  pub emptied_next : (old : List ℕ) → IsEmptied k old words region i → IsEmptied k old less region (i + 1)
  emptied_next old g = emptied_on k old words less region i g (take-set-le (k.slots + k.cards) words (row_word k region i) 0 (omega arith)) (λ x pair ne. bit_on x (row_apart k x region i h.shaped pair ne below)) bit_back gone

-- a word of the row that is 0 already
pub emptied_past : (k : RaceShape) (old words : List ℕ) (region i found : ℕ) → get_elem? words (row_word k region i) ≡ some found → found ≡ 0 → IsEmptied k old words region i → IsEmptied k old words region (i + 1)
emptied_past k old words region i found at none g = emptied_on k old words words region i g refl (λ x pair ne b. b) (λ x b. b)
    (λ x e b. no_bit k words x (ap (λ (j : ℕ). get_or words j 0) e ∙ (reads_as words (row_word k region i) found 0 at ∙ none)) b)

-- no slot refers into the region of the row of flags
pub none_behind : (k : RaceShape) (words : List ℕ) (p : ℕ) → IsBegun (started k words) → Into k words k.regions p → ⊥
none_behind k words p h i = absurd (let pair = crossing_pair k p i.0 h.shaped i.1 (h.bounded p i.0 i.1 i.2) i.3 in omega (arith, pair.1, i.4))

pub into_back : (k : RaceShape) (old new : List ℕ) (region p : ℕ) → front k new ≡ front k old → Into k new region p → Into k old region p
into_back k old new region p same i = (i.0, i.1, slot_back k old new p i.0 same i.1 i.2, i.3, i.4)

-- as a table

module _ (k : RaceShape) (l : layout.Shape) (laid : k ≡ shape_of l k.parties) where
  enters_word : (words : List ℕ) (slot region : ℕ) → Enters (table_of (ended l k words)) slot region → Into k words region slot
  enters_word words slot region h =
      let w = crossing_back (ended l k words) k.parties slot h.place h.refers (λ q. h.outside (q ∙ h.into)) in
      subst (λ (s : RaceShape). Into s words region slot) (sym laid) (w.0, w.1, (at_untake words (k.slots + k.cards) slot w.0 w.2).1, w.3, w.4 ∙ h.into)

  pub word_enters : (words : List ℕ) (slot region : ℕ) → Into k words region slot → Enters (table_of (ended l k words)) slot region
  word_enters words slot region i = let x = subst (λ (s : RaceShape). Into s words region slot) laid i in record {
    place = x.0 - 1;
    refers = word_refers (ended l k words) slot x.0 x.1 (at_take words (k.slots + k.cards) slot x.0 (omega (arith, i.1)) x.2) (crosses_reference (shape_of l k.parties) slot x.0 x.3);
    into = x.4;
    outside = λ q. crosses_apart (shape_of l k.parties) slot x.0 x.3 (q ∙ sym x.4);
  }

  -- what a clear answers
  module _ (old read : List ℕ) (begun : IsBegun (started k old)) (same : read ≡ old) (caller region : ℕ) (lt : region < l.regions) (count : ℕ) (counted : count ≡ length (marked_cards k old)) where
    abbrev t : Table
    t = table_of (ended l k old)

    pub clear_pending : 1 ≤ count → IsStep (table_of (ended l k old)) (clear_entry caller region (Pending count)) (table_of (ended l k read))
    clear_pending some_card = subst (λ (ws : List ℕ). IsStep t (clear_entry caller region (Pending count)) (table_of (ended l k ws))) (sym same)
        (record { allowed = record { numbers = lt; refines = none_refinable t; answers = (refl, counted ∙ pending_len k l laid old begun, some_card) }; after = sym (refined_none t) })

    module _ (none : count ≤ 0) (number : ℕ) (is : number ≡ region) where
      clean : t.pending ≡ fin.empty
      clean = none_pending k l laid old begun (let n : ℕ = length (marked_cards k old) in let e : count ≡ n = counted in let goal : n ≡ 0 = omega (arith, none) in goal)

      pub clear_refused : (slot named : ℕ) (new : List ℕ) → named ≡ slot → new ≡ read → IsLeastInto k read number (Some slot) → IsStep (table_of (ended l k old)) (clear_entry caller region (StillReferenced named)) (table_of (ended l k new))
      clear_refused slot named new e then_same least =
          let first : IsLeastInto k old region (Some named) = subst (λ (x : List ℕ × ℕ × ℕ). IsLeastInto k x.0 x.1 (Some x.2)) (λ i. (same i, is i, sym e i)) least in
          subst (λ (ws : List ℕ). IsStep t (clear_entry caller region (StillReferenced named)) (table_of (ended l k ws))) (sym (then_same ∙ same))
          (record { allowed = record { numbers = lt; refines = none_refinable t; answers = (refl, clean, record { enters = word_enters old named region first.0; least = λ other x. first.1 other (enters_word old other region x) }) }; after = sym (refined_none t) })

      pub clear_granted : (between new : List ℕ) → between ≡ read → IsLeastInto k read number None → IsBegun (started k new) → IsEmptied k between new number k.row → IsStep (table_of (ended l k old)) (clear_entry caller region Cleared) (table_of (ended l k new))
      clear_granted between new then_same never h emptied =
          let g : IsEmptied k old new region k.row = subst (λ (x : List ℕ × ℕ). IsEmptied k x.0 new x.1 k.row) (λ i. ((then_same ∙ same) i, is i)) emptied in
          let gone : table_of (ended l k new) ≡ settled (Clear region) (reply.Clear Cleared) t = retained_is k l laid old new (λ x. not (eqb x.1 region)) begun h (record {
            front = g.front;
            kept = λ x pair stays. g.kept x pair.0 (λ e. stays (ap not (eq-eqb x.1 region e)));
            only = λ x pair. g.only x pair;
            clear = λ x pair out. g.clear x pair.0 (eqb-true x.1 region (not-false _ out)) (in_row k x h.shaped pair);
          }) in record {
            allowed = record { numbers = lt; refines = none_refinable t; answers = (refl, clean, λ slot enters. never slot (subst (λ (x : List ℕ × ℕ). Into k x.0 x.1 slot) (λ i. (sym same i, sym is i)) (enters_word old slot region enters))) };
            after = gone ∙ ap (settled (Clear region) (reply.Clear Cleared)) (sym (refined_none t));
          }
