-- Laws of the plain table.
use Rattle.std.specs.Prelude.{◌≡◌, ◌≢◌, ◌⊎◌, ◌<◌, ◌&&◌, ◌||◌}
use Rattle.g1_core.specs.{◌∙◌, inl, inr, ℕ, Bool, true, false, cond, eqb, List, length, get_or, replicate, Option, Some, None, refl, sym, ap, subst, arith, not, enumerate_from, eqb-false, ne_eqb, cases_lt, cases_eq, cases_Bool, or_cases, or_left, or_right, and_parts, and_from, nat_cmp_total, eq_by_cmp_equiv, get_or-set_same, get_or-set_other, get_or_past, get_or-replicate, length-replicate, length-set, length-enumerate_from, SameRegion, AlreadyDirty, Logged, Shape, slot_count, card_of, region_of, region_of_card, CardSet, set_of, opening, IsPending, IsRecorded, Crosses, Holds, IsCovered, pair_of, held, refined, pending_after, stored, HoldsIn, eq_by_cmp, nat_cmp, exact_unsigned, Equal-is, list_set}
use Rattle.g1_core.specs.Table.{Table}
use Rattle.std.specs.FinSet as set
pub use Rattle.g1_layout.proofs.ShapeLemmas.{region_of_slot}
use Rattle.g1_core.proofs.SetLemmas.{pair_total, pair_exact, listed, unlisted, same_bools, at_its_place, from_places, to_places}

-- what makes a pair holds
made_if : (l : Shape) (refs : List (Option ℕ)) (slot place card region : ℕ) (b : Bool) → get_or refs slot None ≡ Some place → eqb (region_of l slot) (region_of l place) ≡ b → cond {A = Option (ℕ × ℕ)} b None (Some (card_of l slot, region_of l place)) ≡ Some (card, region) → HoldsIn l refs card region
made_if l refs slot place card region true at is e = cc
made_if l refs slot place card region false at is e =
    let pairs : ◌≡◌ {A = ℕ × ℕ} (card_of l slot, region_of l place) (card, region) = cc in
    let on : card_of l slot ≡ card = ap (λ (p : ℕ × ℕ). p.0) pairs in
    let into : region_of l place ≡ region = ap (λ (p : ℕ × ℕ). p.1) pairs in
    record { slot = slot; place = place; on_card = on; refers = at; into = into; outside = λ e. eqb-false _ _ is (sym (region_of_slot l slot) ∙ ap (region_of_card l) on ∙ e ∙ sym into) }

made : (l : Shape) (refs : List (Option ℕ)) (slot card region : ℕ) (o : Option ℕ) → get_or refs slot None ≡ o → pair_of l (slot, o) ≡ Some (card, region) → HoldsIn l refs card region
made l refs slot card region None at e = cc
made l refs slot card region (Some place) at e = made_if l refs slot place card region (eqb (region_of l slot) (region_of l place)) at refl e

-- a slot that refers somewhere is one of the list
pub is_slot : (xs : List (Option ℕ)) (slot place : ℕ) → get_or xs slot None ≡ Some place → slot < length xs
is_slot xs slot place e =
    elim (cases_lt slot (length xs)) [ inl l ↦ l | inr past ↦ let none : get_or xs slot None ≡ None = get_or_past xs slot None past in cc ]

-- the pair of a slot that crosses is held
pub crossing_held : (t : Table) (slot place : ℕ) → Crosses t slot place → set.contains (held t) (card_of t.layout slot, region_of t.layout place) ≡ true
crossing_held t slot place x =
    unlisted pair_total pair_exact _ _ (to_places (pair_of t.layout) t.refs None slot _ (is_slot t.refs slot place x.refers) (ap (λ (o : Option ℕ). pair_of t.layout (slot, o)) x.refers ∙ ap (λ b. cond {A = Option (ℕ × ℕ)} b None (Some (card_of t.layout slot, region_of t.layout place))) (ne_eqb _ _ x.across)))

-- what holds is held
pub held_from_Holds : (t : Table) (card region : ℕ) → Holds t card region → set.contains (held t) (card, region) ≡ true
held_from_Holds t card region h =
    let across : region_of t.layout h.slot ≢ region_of t.layout h.place = λ e. h.outside (ap (region_of_card t.layout) (sym h.on_card) ∙ region_of_slot t.layout h.slot ∙ e ∙ h.into) in
    subst (λ (p : ℕ × ℕ). set.contains (held t) p ≡ true) (ap (λ (c : ℕ). (c, region_of t.layout h.place)) h.on_card ∙ ap (λ (r : ℕ). (card, r)) h.into) (crossing_held t h.slot h.place (record { refers = h.refers; across = across }))

pub slot_of : (xs : List (Option ℕ)) (k : ℕ) (p : ℕ × Option ℕ) → k < length (enumerate_from 0 xs) → get_or (enumerate_from 0 xs) k p ≡ p → ◌≡◌ {A = ℕ × Option ℕ} (k, get_or xs k None) p
slot_of xs k p l e = sym (at_its_place xs None k p (omega (arith, length-enumerate_from 0 xs))) ∙ e

-- what is held holds
pub Holds_from_held : (t : Table) (card region : ℕ) → set.contains (held t) (card, region) ≡ true → Holds t card region
Holds_from_held t card region e =
    let k = from_places (pair_of t.layout) t.refs None (card, region) (listed pair_total pair_exact _ _ e) in
    made t.layout t.refs k.0 card region (get_or t.refs k.0 None) refl k.2

-- refining: what is pending and recorded afterwards
module _ (cards : List ℕ) (t : Table) where
  pub refined_pending : (card : ℕ) → set.contains (refined cards t).pending card ≡ (set.contains t.pending card && not (set.contains (set_of cards) card))
  refined_pending card = set.contains-difference nat_cmp_total t.pending (set_of cards) card

  pub refined_recorded : (p : ℕ × ℕ) → set.contains (refined cards t).recorded p ≡ (set.contains t.recorded p || (set.contains (held t) p && set.contains (set_of cards) p.0))
  refined_recorded p =
      set.contains-union pair_total t.recorded _ p
      ∙ ap (λ b. set.contains t.recorded p || b) (set.contains-retain (held t) (λ pair. set.contains (set_of cards) pair.0) p (λ x e. ap (λ (q : ℕ × ℕ). set.contains (set_of cards) q.0) (sym (pair_exact p x e))))

  pub still_recorded : (card region : ℕ) → IsRecorded t card region → IsRecorded (refined cards t) card region
  still_recorded card region h = refined_recorded (card, region) ∙ or_left _ _ h

  pub newly_recorded : (card region : ℕ) → set.contains (held t) (card, region) ≡ true → set.contains (set_of cards) card ≡ true → IsRecorded (refined cards t) card region
  newly_recorded card region h k = refined_recorded (card, region) ∙ or_right _ _ (and_from _ _ h k)

  pub recorded_cases : (card region : ℕ) → IsRecorded (refined cards t) card region → IsRecorded t card region ⊎ (set.contains (held t) (card, region) ≡ true)
  recorded_cases card region h =
      elim (or_cases _ _ (sym (refined_recorded (card, region)) ∙ h)) [ inl old ↦ inl old | inr new ↦ inr (and_parts _ _ new).0 ]

  pub pending_before : (card : ℕ) → IsPending (refined cards t) card → IsPending t card
  pending_before card h = (and_parts _ _ (sym (refined_pending card) ∙ h)).0

  pub still_pending : (card : ℕ) → IsPending t card → set.contains (set_of cards) card ≡ false → IsPending (refined cards t) card
  still_pending card h k = refined_pending card ∙ and_from _ _ h (ap not k)

  -- refining keeps cover
  pub refined_covered : IsCovered t → IsCovered (refined cards t)
  refined_covered cover slot place x =
      let old : Crosses t slot place = record { refers = x.refers; across = x.across } in
      let card = card_of t.layout slot in
      let region = region_of t.layout place in
      elim (cover slot place old) [
        | inr r ↦ inr (still_recorded card region r)
        | inl p ↦ elim (cases_Bool (set.contains (set_of cards) card)) [
          | inl k ↦ inr (newly_recorded card region (crossing_held t slot place old) k)
          | inr k ↦ inl (still_pending card p k)
        ]
      ]

-- a store dirties the card of its slot where its target lies in another region
abbrev pub dirties : Shape → ℕ → Option ℕ → Bool
dirties l slot None = false
dirties l slot (Some place) = not (eqb (region_of l slot) (region_of l place))

stored_if : (pending : CardSet) (card c : ℕ) (a b : Bool) → set.contains pending card ≡ b → set.contains (pending_after (cond a SameRegion (cond b AlreadyDirty Logged)) pending card) c ≡ (set.contains pending c || (not a && eq_by_cmp nat_cmp c card))
stored_if pending card c true b is = grind arith
stored_if pending card c false false is = rw (set.contains-insert nat_cmp_total pending card c) (grind arith)
stored_if pending card c false true is = same_bools _ _ (or_left _ _) (λ h. elim (or_cases _ _ h) [ inl old ↦ old | inr same ↦ subst (λ (k : ℕ). set.contains pending k ≡ true) (sym (exact_unsigned c card ((Equal-is (nat_cmp c card)).0 same))) is ])

pub stored_pending : (t : Table) (slot : ℕ) (target : Option ℕ) (c : ℕ) → set.contains (stored t slot target).pending c ≡ (set.contains t.pending c || (dirties t.layout slot target && eq_by_cmp nat_cmp c (card_of t.layout slot)))
stored_pending t slot None c = grind arith
stored_pending t slot (Some place) c = stored_if t.pending (card_of t.layout slot) c (eqb (region_of t.layout slot) (region_of t.layout place)) (set.contains t.pending (card_of t.layout slot)) refl

pub store_marks : (t : Table) (slot place : ℕ) → region_of t.layout slot ≢ region_of t.layout place → IsPending (stored t slot (Some place)) (card_of t.layout slot)
store_marks t slot place across = stored_pending t slot (Some place) (card_of t.layout slot) ∙ or_right _ _ (and_from _ _ (ap not (ne_eqb _ _ across)) ((eq_by_cmp_equiv nat_cmp_total).refl (card_of t.layout slot)))

-- a store keeps cover: at its slot it marks the card, and elsewhere nothing is lost
module _ (t : Table) (slot : ℕ) (target : Option ℕ) where
  same_slot : (place : ℕ) → Crosses (stored t slot target) slot place → IsPending (stored t slot target) (card_of t.layout slot)
  same_slot place x =
      let is : target ≡ Some place = sym (get_or-set_same t.refs slot target None (omega (arith, is_slot (list_set t.refs slot target) slot place x.refers, length-set t.refs slot target))) ∙ x.refers in
      subst (λ o. IsPending (stored t slot o) (card_of t.layout slot)) (sym is) (store_marks t slot place x.across)

  pub stored_covered : IsCovered t → IsCovered (stored t slot target)
  stored_covered cover other place x =
      elim (cases_eq other slot) [
        | inl is ↦ inl (subst (λ s. IsPending (stored t slot target) (card_of t.layout s)) (sym is) (same_slot place (subst (λ s. Crosses (stored t slot target) s place) is x)))
        | inr apart ↦ elim (cover other place (record { refers = sym (get_or-set_other t.refs slot other target None apart) ∙ x.refers; across = x.across })) [
          | inl p ↦ inl (stored_pending t slot target (card_of t.layout other) ∙ or_left _ _ p)
          | inr r ↦ inr r
        ]
      ]

pub nothing_refers : (n slot place : ℕ) → get_or (replicate n None) slot None ≡ Some place → ⊥
nothing_refers n slot place e =
    let nulls : List (Option ℕ) = replicate n None in
    let none : get_or nulls slot None ≡ None = get_or-replicate n slot None None (omega (arith, is_slot nulls slot place e, length-replicate {A = Option ℕ} n None)) in
    cc

pub opening_covered : (l : Shape) → IsCovered (opening l)
opening_covered l slot place x = absurd (nothing_refers (slot_count l) slot place x.refers)
