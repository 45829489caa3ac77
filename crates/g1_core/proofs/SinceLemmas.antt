-- What is recorded at the end of a run, a card has held since the last clear.
use Rattle.std.specs.Prelude.{◌≡◌, ◌≢◌, ◌⊎◌, ◌∷◌, ◌++◌}
use Rattle.g1_core.specs.{◌∙◌, take, inl, inr, ℕ, true, List, [], length, drop, sym, ap, subst, arith, Contains, All, not, nat_cmp, take_all, drop_all, take-append-le, drop-append-le, length-append, All-nil, All-push, true≢false, and_parts, eq-eqb, Shape, card_of, region_of, region_of_card, pair_cmp, opening, Holds, IsCovered, IsRecorded, refined, held, Call, Reply, Entry, Store, Clear, written, settled, table_after, IsAllowed, table_of_history, IsPermitted, Clears, ClearsBy, HeldSince, IsExact, drained}
use Rattle.g1_core.specs.Table.{Table}
use Rattle.g1_core.specs.declared.entry.Call.TheVariants.{Redirect}
use Rattle.std.specs.FinSet as set
use Rattle.g1_core.specs.declared.entry.Reply.TheVariants as reply
use Rattle.g1_core.specs.declared.reply.ClearReply.TheVariants as clear_reply
use Rattle.g1_core.proofs.MovedLemmas.{moved_known}
use Rattle.g1_core.proofs.TableLemmas.{opening_covered, recorded_cases, Holds_from_held, region_of_slot}
use Rattle.g1_core.proofs.RunLemmas.{by_push, table_of_push, forgotten, written_layout, HasSlots, step_covered, run_covered, run_layout}

-- what a call has written and settled leaves recorded was recorded before, and the call did not clear the region
written_recorded : (c : Call) (t : Table) (card region : ℕ) → IsRecorded (written c t) card region → IsRecorded t card region
written_recorded (Store slot target) t card region h = h
written_recorded _ t card region h = h

-- what is recorded in the end was recorded before it was settled, or is held in the end; and the call did not clear the region
settled_recorded : (c : Call) (r : Reply) (t : Table) (card region : ℕ) → HasSlots t.layout → IsRecorded (settled c r t) card region → (IsRecorded t card region ⊎ Holds (settled c r t) card region) × (ClearsBy c r region → ⊥)
settled_recorded (Clear of) (reply.Clear clear_reply.Cleared) t card region some h =
    let p = and_parts _ _ (sym (forgotten t.recorded of (card, region)) ∙ h) in
    (inl p.0, λ is. true≢false (sym p.1 ∙ ap not (eq-eqb region of (sym is))))
settled_recorded (Redirect from to) (reply.Moved n) t card region some h = moved_known from to t some card region h
settled_recorded _ _ t card region some h = (inl h, λ e. e)

-- what a card holds as it is refined, it held before the call, or holds after it
written_holds : (c : Call) (r : Reply) (cards : List ℕ) (t : Table) (card region : ℕ) → Holds (written c t) card region → Holds t card region ⊎ Holds (settled c r (refined cards (written c t))) card region
written_holds (Store slot target) r cards t card region h = inr (record { slot = h.slot; place = h.place; on_card = h.on_card; refers = h.refers; into = h.into; outside = h.outside })
written_holds _ r cards t card region h = inl h

-- one more entry, which does not clear the region
since_push : (l : Shape) (entries : List Entry) (e : Entry) (card region : ℕ) → (Clears region e → ⊥) → HeldSince l entries card region → HeldSince l (entries ++ e ∷ []) card region
since_push l entries e card region not h =
    record {
      moment = h.moment;
      within = omega (arith, h.within, length-append entries (e ∷ []));
      since = subst (All (λ x. Clears region x → ⊥)) (sym (drop-append-le h.moment entries (e ∷ []) h.within)) (All-push (λ x. Clears region x → ⊥) (drop h.moment entries) e h.since not);
      held = subst (λ es. Holds (table_of_history l es) card region) (sym (take-append-le h.moment entries (e ∷ []) h.within)) h.held;
    }

-- what holds now has held since
pub since_now : (l : Shape) (entries : List Entry) (card region : ℕ) → Holds (table_of_history l entries) card region → HeldSince l entries card region
since_now l entries card region h =
    record {
      moment = length entries;
      within = omega arith;
      since = subst (All (λ x. Clears region x → ⊥)) (sym (drop_all (length entries) entries (omega arith))) (All-nil (λ x. Clears region x → ⊥));
      held = subst (λ es. Holds (table_of_history l es) card region) (sym (take_all (length entries) entries (omega arith))) h;
    }

-- each recorded card held since the last clear
module _ (l : Shape) (some : HasSlots l) where
  abbrev Since : List Entry → Type 0
  Since entries = (card region : ℕ) → IsRecorded (table_of_history l entries) card region → HeldSince l entries card region

  since_step : (entries : List Entry) (e : Entry) → Since entries → Since (entries ++ e ∷ [])
  since_step entries e known card region h =
      let t : Table = table_of_history l entries in
      let u : Table = refined e.refined (written e.call t) in
      let after : IsRecorded (table_after t e) card region = subst (λ t. IsRecorded t card region) (table_of_push l entries e) h in
      let here : Holds (table_after t e) card region → HeldSince l (entries ++ e ∷ []) card region = λ h. since_now l (entries ++ e ∷ []) card region (subst (λ t. Holds t card region) (sym (table_of_push l entries e)) h) in
      let s : (IsRecorded u card region ⊎ Holds (table_after t e) card region) × (Clears region e → ⊥) = settled_recorded e.call e.reply u card region (subst HasSlots (sym (written_layout e.call t ∙ run_layout (opening l) entries)) some) after in
      elim s.0 [
        | inr new ↦ here new
        | inl r ↦ elim (recorded_cases e.refined (written e.call t) card region r) [
          | inl old ↦ since_push l entries e card region s.1 (known card region (written_recorded e.call t card region old))
          | inr new ↦ elim (written_holds e.call e.reply e.refined t card region (Holds_from_held (written e.call t) card region new)) [
            | inl held ↦ since_push l entries e card region s.1 (since_now l entries card region held)
            | inr held ↦ here held
          ]
        ]
      ]

  pub recorded_since : (entries : List Entry) (card region : ℕ) → IsRecorded (table_of_history l entries) card region → HeldSince l entries card region
  recorded_since = by_push Since (λ card region h. absurd (true≢false (sym h ∙ set.contains-empty pair_cmp (card, region)))) since_step

  -- a whole drain is exact
  module _ (entries : List Entry) (run : IsPermitted (opening l) entries) (caller region : ℕ) (cards done : List ℕ) (allowed : IsAllowed (table_of_history l entries) (drained caller region cards done)) where
    abbrev now : Table
    now = table_of_history l entries

    abbrev after : Table
    after = refined done now

    holding_answered : (card : ℕ) → Holds now card region → Contains cards card
    holding_answered card h =
        let cover : IsCovered after = step_covered now (drained caller region cards done) (subst HasSlots (sym (run_layout (opening l) entries)) some) allowed (run_covered (opening l) entries some run (opening_covered l)) in
        let across : region_of now.layout h.slot ≢ region_of now.layout h.place = λ e. h.outside (ap (region_of_card now.layout) (sym h.on_card) ∙ region_of_slot now.layout h.slot ∙ e ∙ h.into) in
        elim (cover h.slot h.place (record { refers = h.refers; across = across })) [
          | inl p ↦ absurd (true≢false (sym p ∙ ap (λ s. set.contains s (card_of now.layout h.slot)) allowed.answers.0 ∙ set.contains-empty nat_cmp _))
          | inr r ↦ allowed.answers.1.all card (subst (λ (p : ℕ × ℕ). set.contains after.recorded p ≡ true) (ap (λ (c : ℕ). (c, region_of now.layout h.place)) h.on_card ∙ ap (λ (r : ℕ). (card, r)) h.into) r)
        ]

    answered_held : (card : ℕ) → Contains cards card → HeldSince l entries card region
    answered_held card c =
        elim (recorded_cases done now card region (allowed.answers.1.recorded card c)) [
          | inl old ↦ recorded_since entries card region old
          | inr new ↦ since_now l entries card region (Holds_from_held now card region new)
        ]

    answered_outside : (card : ℕ) → Contains cards card → region_of_card l card ≢ region
    answered_outside card c =
        let h : HeldSince l entries card region = answered_held card c in
        subst (λ (m : Shape). region_of_card m card ≢ region) (run_layout (opening l) (take h.moment entries)) h.held.outside

    pub drain_exact : IsExact l entries region cards
    drain_exact = record { ascending = allowed.answers.1.ascending; outside = answered_outside; every = holding_answered; only = answered_held }
