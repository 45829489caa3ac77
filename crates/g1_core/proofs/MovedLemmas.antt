-- What moving references from one region to another does to the plain table.
use Rattle.std.specs.Prelude.{◌≡◌, ◌≢◌, ◌⊎◌, ◌<◌, ◌*◌, ◌&&◌, ◌||◌}
use Rattle.g1_core.specs.{◌∙◌, inl, inr, ℕ, Bool, true, cond, eqb, length, get_or, Option, Some, None, sym, ap, subst, arith, not, filter_map, enumerate_from, eqb-false, eq-eqb, ne_eqb, not-true, or_cases, or_left, or_right, and_parts, and_from, true≢false, length-map, length-enumerate_from, Shape, card_of, region_of, region_of_card, same_offset, same_offset_region, pair_cmp, target_of, IsRecorded, Holds, IsCovered, enters, moved_target, moved_pair, moved}
use Rattle.g1_core.specs.Table.{Table}
use Rattle.std.specs.FinSet as set
use Rattle.g1_core.proofs.SetLemmas.{pair_total, pair_exact, listed, unlisted, from_places, to_places}
use Rattle.g1_core.proofs.ChangeLemmas.{map_at, IsChanged, change_cases}
use Rattle.g1_core.proofs.TableLemmas.{region_of_slot, is_slot}

pair_if : (card to : ℕ) (p : ℕ × ℕ) (b : Bool) → cond {A = Option (ℕ × ℕ)} b (Some (card, to)) None ≡ Some p → (b ≡ true) × (◌≡◌ {A = ℕ × ℕ} (card, to) p)
pair_if card to p b e = grind arith

-- the pair that a slot makes
module _ (l : Shape) (from to slot : ℕ) (o : Option ℕ) where
  pub pair_from : (p : ℕ × ℕ) → moved_pair l from to (slot, o) ≡ Some p → (enters l from (slot, o) ≡ true) × (region_of l slot ≢ to) × (◌≡◌ {A = ℕ × ℕ} (card_of l slot, to) p)
  pair_from p e =
      let q = pair_if (card_of l slot) to p (enters l from (slot, o) && not (eqb (region_of l slot) to)) e in
      let b = and_parts _ _ q.0 in
      (b.0, eqb-false _ _ (not-true _ b.1), q.1)

  pub to_pair : enters l from (slot, o) ≡ true → region_of l slot ≢ to → moved_pair l from to (slot, o) ≡ Some (card_of l slot, to)
  to_pair enter outside = ap (λ b. cond {A = Option (ℕ × ℕ)} b (Some (card_of l slot, to)) None) (and_from _ _ enter (ap not (ne_eqb _ _ outside)))

module _ (from to : ℕ) (t : Table) where
  target_from : (slot place : ℕ) → target_of (moved from to t) slot ≡ Some place → moved_target t.layout from to (slot, get_or t.refs slot None) ≡ Some place
  target_from slot place e =
      sym (map_at t.refs None (moved_target t.layout from to) None slot (omega (arith, is_slot _ slot place e, length-map (enumerate_from 0 t.refs) (moved_target t.layout from to), length-enumerate_from 0 t.refs))) ∙ e

  moved_recorded : (p : ℕ × ℕ) → set.contains (moved from to t).recorded p ≡ ((set.contains t.recorded p || set.contains (set.from_list {R = pair_cmp} (filter_map (moved_pair t.layout from to) (enumerate_from 0 t.refs))) p) && not (eqb p.1 from))
  moved_recorded p =
      set.contains-retain _ (λ pair. not (eqb pair.1 from)) p (λ x e. ap (λ (q : ℕ × ℕ). not (eqb q.1 from)) (sym (pair_exact p x e)))
      ∙ ap (λ b. b && not (eqb p.1 from)) (set.contains-union pair_total t.recorded _ p)

  old_stays : (card region : ℕ) → IsRecorded t card region → region ≢ from → IsRecorded (moved from to t) card region
  old_stays card region h away = moved_recorded (card, region) ∙ and_from _ _ (or_left _ _ h) (ap not (ne_eqb _ _ away))

  new_pair : (slot : ℕ) → from ≢ to → (c : IsChanged t.layout from to slot (get_or t.refs slot None)) → region_of t.layout slot ≢ to → IsRecorded (moved from to t) (card_of t.layout slot) to
  new_pair slot apart c outside =
      moved_recorded (card_of t.layout slot, to)
      ∙ and_from _ _ (or_right _ _ (unlisted pair_total pair_exact _ _ (to_places (moved_pair t.layout from to) t.refs None slot _ (is_slot t.refs slot c.old c.refers) (to_pair t.layout from to slot (get_or t.refs slot None) c.enters outside))))
      (ap not (ne_eqb to from (λ e. apart (sym e))))

  -- moving keeps cover, where nothing is pending
  pub moved_covered : 0 < t.layout.cards * t.layout.slots → from ≢ to → t.pending ≡ set.empty → IsCovered t → IsCovered (moved from to t)
  moved_covered some apart none cover slot place x =
      elim (change_cases t.layout from to slot (get_or t.refs slot None)) [
        | inr c ↦
            let is : Some place ≡ Some (same_offset t.layout c.old to) = sym (target_from slot place x.refers) ∙ c.moves in
            let at : region_of t.layout place ≡ to = ap (region_of t.layout) (cc) ∙ same_offset_region t.layout c.old to some in
            inr (subst (λ r. IsRecorded (moved from to t) (card_of t.layout slot) r) (sym at) (new_pair slot apart c (λ e. x.across (e ∙ sym at))))
        | inl left ↦
            let refers : get_or t.refs slot None ≡ Some place = sym left.stays ∙ target_from slot place x.refers in
            elim (cover slot place (record { refers = refers; across = x.across })) [
              | inl p ↦ inl p
              | inr r ↦ inr (old_stays (card_of t.layout slot) (region_of t.layout place) r (λ e. true≢false (sym (and_from _ _ (ap not (ne_eqb _ _ (λ own. x.across (own ∙ sym e)))) (eq-eqb _ _ e)) ∙ ap (λ (o : Option ℕ). enters t.layout from (slot, o)) (sym refers) ∙ left.away)))
            ]
      ]

  -- what is recorded afterwards was recorded, or is held now; and no pair at the region is left
  pub moved_known : 0 < t.layout.cards * t.layout.slots → (card region : ℕ) → IsRecorded (moved from to t) card region → (IsRecorded t card region ⊎ Holds (moved from to t) card region) × (from ≡ region → ⊥)
  moved_known some card region h =
      let p = and_parts _ _ (sym (moved_recorded (card, region)) ∙ h) in (
        elim (or_cases _ _ p.0) [ inl o ↦ inl o | inr n ↦ inr (holds (from_places (moved_pair t.layout from to) t.refs None (card, region) (listed pair_total pair_exact _ _ n))) ],
        λ e. true≢false (sym p.1 ∙ ap not (eq-eqb region from (sym e))),
      )
    where
      holds : (k : ℕ) × (k < length t.refs) × (moved_pair t.layout from to (k, get_or t.refs k None) ≡ Some (card, region)) → Holds (moved from to t) card region
      holds (k, inside, is) =
          let m = pair_from t.layout from to k (get_or t.refs k None) (card, region) is in
          let on : card_of t.layout k ≡ card = ap (λ (p : ℕ × ℕ). p.0) m.2 in
          let into : to ≡ region = ap (λ (p : ℕ × ℕ). p.1) m.2 in
          elim (change_cases t.layout from to k (get_or t.refs k None)) [
            | inl left ↦ absurd (true≢false (sym m.0 ∙ left.away))
            | inr c ↦ record {
              slot = k;
              place = same_offset t.layout c.old to;
              on_card = on;
              refers = map_at t.refs None (moved_target t.layout from to) None k inside ∙ c.moves;
              into = same_offset_region t.layout c.old to some ∙ into;
              outside = λ e. m.1 (sym (region_of_slot t.layout k) ∙ ap (region_of_card t.layout) on ∙ e ∙ sym into);
            }
          ]
