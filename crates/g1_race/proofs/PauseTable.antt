-- What a pause's words say as a table.
use Rattle.std.specs.Prelude.{◌≡◌, ◌+◌, ◌<◌, ◌≤◌}
use Rattle.g1_race.specs.{at_read, cases_lt, false, get_or, get_or-map, get_or_past, length-drop, length-map, ℕ, eqb, List, map, drop, Contains, refl, sym, ap, ◌∙◌, subst, inl, inr, ⊎_elim, arith, some, get_elem?, slot_count, nat_cmp, and_parts, not-true, true≢false, eqb-true, Option, length, eq-eqb, CardSet, set_of, Table, Holds, IsPending, IsRecorded, AreMembers, refined, IsStep, drained, pending_flag, none_of, All_by_member, same_cards, same_pairs, refined_pending, still_recorded, newly_recorded, recorded_cases, held_from_Holds, Holds_from_held, RaceShape, BeganInto, IsBegun, IsPair, HasBit, IsWholeShape, mark_word, front, started, shape_of, ended, target_of_word, refs_of, marks_of, table_of, AreRefined, AreMembersComplete, is_marked, is_member, marked_cards, member_cards, AreAllRefined, IsExactAtPause, never_both, at_take, at_untake, take_same}
use Rattle.std.proofs.Math.Seq.{take-take}
use Rattle.std.proofs.lemmas.List.{get_or-drop}
use Rattle.g1_layout.specs.Shape as layout
use Rattle.std.specs.FinSet as fin
use Rattle.g1_core.proofs.SetLemmas.{in_list as from_cards, in_set as in_cards}
use Rattle.g1_race.proofs.Telling.{at_most_both, gathered, is_listed, listed_is, listed_below, listed_distinct, set_len}
use Rattle.g1_race.proofs.NextCards.{mark_is, marked_word}
use Rattle.g1_race.proofs.Ends.{begun_covered, marked_pending, marks_here, recorded_set, set_recorded}
use Rattle.g1_race.proofs.Draining.{began_holds, covered_held}

pub members_complete : AreMembersComplete
members_complete t region cards clean cover m c h = m.all c (covered_held t c region clean cover h)

-- no more cards are members than were members or dirty
pub members_room : (k : RaceShape) (old new : List ℕ) (region : ℕ) → AreRefined k old new k.cards → length (member_cards k new region) ≤ length (member_cards k old region) + length (marked_cards k old)
members_room k old new region r = at_most_both (is_member k new region) (is_member k old region) (is_marked k old) k.cards (λ c lt e. ⊎_elim
    (λ (u : HasBit k old (c, region)). inl (eq-eqb _ 1 u))
    (λ (u : (get_elem? old (mark_word k c) ≡ some 1) × BeganInto k old (c, region)). inr (mark_is k old c 1 u.0 refl))
    (r.only (c, region) lt (eqb-true _ 1 e)))

module _ (k : RaceShape) (l : layout.Shape) (laid : k ≡ shape_of l k.parties) where
  pub slots_are : k.slots ≡ slot_count l
  slots_are = ap (λ (s : RaceShape). s.slots) laid

  -- a pending card has a word of 1
  pub pending_word : (words : List ℕ) (c : ℕ) → IsPending (table_of (ended l k words)) c → (c < k.cards) × (get_elem? words (mark_word k c) ≡ some 1)
  pending_word words c p =
      let marks : List ℕ = drop (slot_count l) (front k words) in
      let flag = pending_flag (marks_of (ended l k words)) c p in
      let long : length (marks_of (ended l k words)) ≡ length marks = length-map marks (λ n. eqb n 1) in
      elim (cases_lt c (length marks)) [
        | inl lt ↦
            let one : get_or (front k words) (slot_count l + c) 0 ≡ 1 = eqb-true _ 1 (ap (λ (n : ℕ). eqb n 1) (sym (get_or-drop (slot_count l) (front k words) c 0)) ∙ (sym (get_or-map (λ n. eqb n 1) marks c 0 false lt) ∙ flag)) in
            let there = at_untake words (k.slots + k.cards) (slot_count l + c) 1 (at_read (front k words) (slot_count l + c) 0 (omega (arith, lt, length-drop (slot_count l) (front k words))) ∙ ap (λ (n : ℕ). some n) one) in
            (omega (arith, there.0, slots_are), ap (λ (n : ℕ). get_elem? words (n + c)) slots_are ∙ there.1)
        | inr past ↦ absurd (true≢false (sym flag ∙ get_or_past (marks_of (ended l k words)) c false (omega (arith, long, past))))
      ]

  pub word_pending : (words : List ℕ) (c : ℕ) → c < k.cards → get_elem? words (mark_word k c) ≡ some 1 → IsPending (table_of (ended l k words)) c
  word_pending words c lt at = marked_pending (marks_of (ended l k words)) c (marks_here (ended l k words) c 1 (at_take words (k.slots + k.cards) (slot_count l + c) 1 (omega (arith, lt, slots_are)) (ap (λ (n : ℕ). get_elem? words (n + c)) (sym slots_are) ∙ at)))

  pub refs_same : (old new : List ℕ) → ((p : ℕ) → p < k.slots → get_elem? new p ≡ get_elem? old p) → refs_of (ended l k new) ≡ refs_of (ended l k old)
  refs_same old new same = ap (map target_of_word)
      (take-take (slot_count l) (k.slots + k.cards) new (omega (arith, slots_are))
      ∙ (take_same new old (slot_count l) (λ p lt. same p (omega (arith, lt, slots_are)))
      ∙ sym (take-take (slot_count l) (k.slots + k.cards) old (omega (arith, slots_are)))))

  -- a reference of the words is one of the table
  pub holds_now : (words : List ℕ) (c r : ℕ) → IsWholeShape k → BeganInto k words (c, r) → Holds (table_of (ended l k words)) c r
  holds_now words c r shaped b =
      let at : get_elem? (front k words) b.0 ≡ some b.1 = at_take words (k.slots + k.cards) b.0 b.1 (let lt : b.0 < k.slots = b.3.0 in omega (arith, lt)) b.2 in
      began_holds (ended l k words) k.parties c r (subst IsWholeShape laid shaped) (subst (λ (s : RaceShape). BeganInto s (front k words) (c, r)) laid (b.0, b.1, at, b.3, b.4))

  -- the table that words make, by what it has
  pub table_is : (new : List ℕ) (t : Table) → IsBegun (started k new) → t.layout ≡ l → refs_of (ended l k new) ≡ t.refs → ((c : ℕ) → IsPending (table_of (ended l k new)) c → IsPending t c) → ((c : ℕ) → IsPending t c → IsPending (table_of (ended l k new)) c)
      → ((x : ℕ × ℕ) → IsPair k x → HasBit k new x → IsRecorded t x.0 x.1) → ((x : ℕ × ℕ) → IsRecorded t x.0 x.1 → IsPair k x × HasBit k new x) → table_of (ended l k new) ≡ t
  table_is new t h same refs on back put get = λ i. record {
    layout = sym same i;
    refs = refs i;
    pending = same_cards (table_of (ended l k new)).pending t.pending on back i;
    recorded = same_pairs (table_of (ended l k new)).recorded t.recorded (λ x c. let s = recorded_set k l new laid h x c in put x s.0 s.1) (λ x c. let s = get x c in set_recorded k l new laid h x s.0 s.1) i;
  }

  -- the pending cards are those whose mark is 1

  pub pending_listed : (words : List ℕ) (c : ℕ) → IsPending (table_of (ended l k words)) c → Contains (marked_cards k words) c
  pending_listed words c p = let w = pending_word words c p in is_listed (is_marked k words) k.cards c w.0 (mark_is k words c 1 w.1 refl)

  pub listed_pending : (words : List ℕ) (c : ℕ) → IsBegun (started k words) → Contains (marked_cards k words) c → IsPending (table_of (ended l k words)) c
  listed_pending words c h in_list =
      let lt : c < k.cards = listed_below (is_marked k words) k.cards c in_list in
      word_pending words c lt (marked_word k words c h lt (listed_is (is_marked k words) k.cards c in_list))

  pub pending_is : (words : List ℕ) → IsBegun (started k words) → (table_of (ended l k words)).pending ≡ set_of (marked_cards k words)
  pending_is words h = same_cards _ _ (λ c p. in_cards (marked_cards k words) c (pending_listed words c p)) (λ c p. listed_pending words c h (from_cards (marked_cards k words) c p))

  pub pending_len : (words : List ℕ) → IsBegun (started k words) → length (marked_cards k words) ≡ fin.len (table_of (ended l k words)).pending
  pending_len words h = sym (ap fin.len (pending_is words h) ∙ set_len (is_marked k words) k.cards)

  pub none_pending : (words : List ℕ) → IsBegun (started k words) → length (marked_cards k words) ≡ 0 → (table_of (ended l k words)).pending ≡ fin.empty
  none_pending words h e = none_of _ (sym (pending_len words h) ∙ e)

  pub none_marked : (words : List ℕ) → length (marked_cards k words) ≡ 0 → (c : ℕ) → c < k.cards → get_elem? words (mark_word k c) ≡ some 1 → ⊥
  none_marked words e c lt at = let i = is_listed (is_marked k words) k.cards c lt (mark_is k words c 1 at refl) in let some_one : i.0 < length (marked_cards k words) = i.1 in absurd (omega (arith, some_one, e))

  -- the members are the cards whose bit is set

  pub members_are : (words : List ℕ) (region r : ℕ) → IsBegun (started k words) → r ≡ region → r < k.regions → AreMembers (table_of (ended l k words)) region (member_cards k words r)
  members_are words region r h e low = subst (λ (q : ℕ). AreMembers (table_of (ended l k words)) q (member_cards k words r)) e (record {
    ascending = (gathered (is_member k words r) k.cards).ascending;
    recorded = λ c i. set_recorded k l words laid h (c, r) (listed_below (is_member k words r) k.cards c i, low) (eqb-true _ 1 (listed_is (is_member k words r) k.cards c i));
    all = λ c x. let o = recorded_set k l words laid h (c, r) x in is_listed (is_member k words r) k.cards c o.0.0 (eq-eqb _ 1 o.1);
  })

  module _ (old new : List ℕ) (b : IsBegun (started k old)) (h : IsBegun (started k new)) (r : AreRefined k old new k.cards) where
    never_pending : (c : ℕ) → IsPending (table_of (ended l k new)) c → ⊥
    never_pending c p = let w = pending_word new c p in never_both new (mark_word k c) (r.clean c w.0 w.0) w.1

    refs_stay : refs_of (ended l k new) ≡ refs_of (ended l k old)
    refs_stay = refs_same old new r.slots

    -- what was dirty and held is recorded
    now_set : (c q : ℕ) → Holds (table_of (ended l k old)) c q → IsPair k (c, q) × HasBit k new (c, q)
    now_set c q x =
        let hold : Holds (table_of (ended l k new)) c q = subst (λ (rs : List (Option ℕ)). Holds (record { layout = l; refs = rs; pending = (table_of (ended l k new)).pending; recorded = (table_of (ended l k new)).recorded }) c q) (sym refs_stay) (record { slot = x.slot; place = x.place; on_card = x.on_card; refers = x.refers; into = x.into; outside = x.outside }) in
        recorded_set k l new laid h (c, q) (covered_held (table_of (ended l k new)) c q never_pending (begun_covered k l new laid h) hold)

    pub all_refined : AreAllRefined (table_of (ended l k old)) (marked_cards k old) (table_of (ended l k new))
    all_refined = record {
      ascending = (gathered (is_marked k old) k.cards).ascending;
      refinable = record { distinct = listed_distinct (is_marked k old) k.cards; pending = All_by_member _ _ (λ c i. listed_pending old c b i) };
      table = table_is new (refined (marked_cards k old) (table_of (ended l k old))) h refl refs_stay
          (λ c p. absurd (never_pending c p))
          (λ c p. absurd (let a = and_parts _ _ (sym (refined_pending (marked_cards k old) (table_of (ended l k old)) c) ∙ p) in true≢false (sym (in_cards (marked_cards k old) c (pending_listed old c a.0)) ∙ not-true _ a.1)))
          (λ x pair bit. ⊎_elim
          (λ (u : HasBit k old x). still_recorded (marked_cards k old) (table_of (ended l k old)) x.0 x.1 (set_recorded k l old laid b x pair u))
          (λ (u : (get_elem? old (mark_word k x.0) ≡ some 1) × BeganInto k old x). newly_recorded (marked_cards k old) (table_of (ended l k old)) x.0 x.1
          (held_from_Holds (table_of (ended l k old)) x.0 x.1 (holds_now old x.0 x.1 b.shaped u.1))
          (in_cards (marked_cards k old) x.0 (is_listed (is_marked k old) k.cards x.0 pair.0 (mark_is k old x.0 1 u.0 refl))))
          (r.only x pair.0 bit))
          (λ x c. elim (recorded_cases (marked_cards k old) (table_of (ended l k old)) x.0 x.1 c) [
            | inl was ↦ let s = recorded_set k l old laid b x was in (s.0, r.kept x s.0 s.1)
            | inr held ↦ now_set x.0 x.1 (Holds_from_held (table_of (ended l k old)) x.0 x.1 held)
          ]);
      clean = same_cards _ _ (λ c p. absurd (never_pending c p)) (λ c p. absurd (true≢false (sym p ∙ fin.contains-empty nat_cmp c)));
      covered = begun_covered k l new laid h;
    }

-- what a drain answers
pub exact_is : (old new : Table) (region : ℕ) (cards done : List ℕ) → AreAllRefined old done new → AreMembers new region cards → IsExactAtPause old region cards
exact_is old new region cards done a m = record {
  every = λ c h. members_complete new region cards (λ d p. absurd (true≢false (sym p ∙ (ap (λ (s : CardSet). fin.contains s d) a.clean ∙ fin.contains-empty nat_cmp d)))) a.covered m c
      (subst (λ (t : Table). Holds t c region) (sym a.table) (record { slot = h.slot; place = h.place; on_card = h.on_card; refers = h.refers; into = h.into; outside = h.outside }));
  only = λ c i. elim (recorded_cases done old c region (subst (λ (t : Table). IsRecorded t c region) a.table (m.recorded c i))) [
    | inl was ↦ inl was
    | inr held ↦ inr (Holds_from_held old c region held)
  ];
}

pub drain_step : (old new : Table) (caller region : ℕ) (cards done : List ℕ) → region < old.layout.regions → AreAllRefined old done new → AreMembers new region cards → IsStep old (drained caller region cards done) new
drain_step old new caller region cards done lt a m = record {
  allowed = record { numbers = lt; refines = a.refinable; answers = subst (λ (t : Table). (t.pending ≡ fin.empty) × AreMembers t region cards) a.table (a.clean, m) };
  after = a.table;
}
