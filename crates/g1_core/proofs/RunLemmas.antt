-- Laws of permitted runs.
use Rattle.std.specs.Prelude.{◌≡◌, ◌≢◌, ◌<◌, ◌*◌, ◌∷◌, ◌++◌, ◌&&◌}
use Rattle.g1_core.specs.{◌∙◌, inl, inr, ℕ, eqb, List, [], refl, sym, ap, subst, arith, fold, not, mul-pos, append-nil, append_assoc, fold-append, and_from, ne_eqb, Shape, IsShape, card_of, region_of, PairSet, opening, IsCovered, refined, Call, Reply, Entry, Store, Clear, written, settled, Answers, IsCallOf, table_after, IsAllowed, IsStep, table_of_history, IsPermitted, length, Option, None, All, IfSome, slot_count, card_count, region_of_card, card_of_below, region_of_below, Holds, AreOutside}
use Rattle.g1_core.specs.Table.{Table}
use Rattle.g1_core.specs.declared.entry.Call.TheVariants.{Redirect}
use Rattle.std.specs.FinSet as set
use Rattle.g1_core.specs.declared.entry.Reply.TheVariants as reply
use Rattle.g1_core.specs.declared.reply.ClearReply.TheVariants as clear_reply
use Rattle.g1_core.proofs.SetLemmas.{pair_exact}
use Rattle.g1_core.proofs.MovedLemmas.{moved_covered}
use Rattle.g1_core.proofs.TableLemmas.{refined_covered, stored_covered, is_slot, recorded_cases, Holds_from_held}

-- what holds of the empty list, and of a list with one more at its end where it holds of the list, holds of each list
module _ {X : Type 0} (P : List X → Type 0) (start : P []) (step : (xs : List X) (x : X) → P xs → P (xs ++ x ∷ [])) where
  pushed_all : (front back : List X) → P front → P (front ++ back)
  pushed_all front [] h = subst P (sym (append-nil front)) h
  pushed_all front (x ∷ back) h = subst P (append_assoc front (x ∷ []) back) (pushed_all (front ++ x ∷ []) back (step front x h))

  pub by_push : (xs : List X) → P xs
  by_push xs = pushed_all [] xs start

-- one more entry
pub table_of_push : (l : Shape) (entries : List Entry) (e : Entry) → table_of_history l (entries ++ e ∷ []) ≡ table_after (table_of_history l entries) e
table_of_push l entries e = fold-append table_after (opening l) entries (e ∷ [])

-- a permitted run goes on by one step
pub permitted_push : (t : Table) (entries : List Entry) (e : Entry) → IsPermitted t entries → IsAllowed (fold table_after t entries) e → IsPermitted t (entries ++ e ∷ [])
permitted_push t [] e h a = (a, tt)
permitted_push t (x ∷ entries) e h a = (h.0, permitted_push (table_after t x) entries e h.1 a)

-- and the run up to there is permitted, and the step
pub permitted_parts : (t : Table) (entries : List Entry) (e : Entry) (rest : List Entry) → IsPermitted t (entries ++ e ∷ rest) → IsPermitted t entries × IsAllowed (fold table_after t entries) e
permitted_parts t [] e rest h = (tt, h.0)
permitted_parts t (x ∷ entries) e rest h = let r = permitted_parts (table_after t x) entries e rest h.1 in ((h.0, r.0), r.1)

-- a step keeps cover
written_covered : (c : Call) (t : Table) → IsCovered t → IsCovered (written c t)
written_covered (Store slot target) t cover = stored_covered t slot target cover
written_covered _ t cover = cover

-- the pairs at other regions stay
pub forgotten : (recorded : PairSet) (region : ℕ) (p : ℕ × ℕ) → set.contains (set.retain recorded (λ pair. not (eqb pair.1 region))) p ≡ (set.contains recorded p && not (eqb p.1 region))
forgotten recorded region p = set.contains-retain recorded (λ pair. not (eqb pair.1 region)) p (λ x e. ap (λ (q : ℕ × ℕ). not (eqb q.1 region)) (sym (pair_exact p x e)))

-- no call changes the layout
pub written_layout : (c : Call) (t : Table) → (written c t).layout ≡ t.layout
written_layout (Store slot target) t = refl
written_layout _ t = refl

settled_layout : (c : Call) (r : Reply) (t : Table) → (settled c r t).layout ≡ t.layout
settled_layout (Clear of) (reply.Clear clear_reply.Cleared) t = refl
settled_layout (Redirect from to) (reply.Moved n) t = refl
settled_layout _ _ t = refl

pub layout_after : (t : Table) (e : Entry) → (table_after t e).layout ≡ t.layout
layout_after t e = settled_layout e.call e.reply (refined e.refined (written e.call t)) ∙ written_layout e.call t

-- a region has slots
abbrev pub HasSlots : Shape → Type 0
HasSlots l = 0 < l.cards * l.slots

pub has_slots : (l : Shape) → IsShape l → HasSlots l
has_slots l h = mul-pos (omega (arith, h.cards_low)) (omega (arith, h.slots_low))

settled_covered : (c : Call) (r : Reply) (cards : List ℕ) (t : Table) → HasSlots t.layout → IsCallOf t.layout c → Answers t c r cards (settled c r (refined cards (written c t))) → IsCovered (refined cards (written c t)) → IsCovered (settled c r (refined cards (written c t)))
settled_covered (Clear region) (reply.Clear clear_reply.Cleared) cards t some n a cover slot place x =
    let away : region_of t.layout place ≢ region = λ into. a.2 slot (record { place = place; refers = x.refers; into = into; outside = λ e. x.across (e ∙ sym into) }) in
    elim (cover slot place (record { refers = x.refers; across = x.across })) [
      | inl p ↦ inl p
      | inr r ↦ inr (forgotten (refined cards t).recorded region (card_of t.layout slot, region_of t.layout place) ∙ and_from _ _ r (ap not (ne_eqb _ _ away)))
    ]
settled_covered (Redirect from to) (reply.Moved _) cards t some n a cover slot place x = moved_covered from to (refined cards t) some n.2 a.0 cover slot place x
settled_covered _ _ cards t some n a cover slot place x = cover slot place x

pub step_covered : (t : Table) (e : Entry) → HasSlots t.layout → IsAllowed t e → IsCovered t → IsCovered (table_after t e)
step_covered t e some a cover = settled_covered e.call e.reply e.refined t some a.numbers a.answers (refined_covered e.refined (written e.call t) (written_covered e.call t cover))

pub run_covered : (t : Table) (entries : List Entry) → HasSlots t.layout → IsPermitted t entries → IsCovered t → IsCovered (fold table_after t entries)
run_covered t [] some h cover = cover
run_covered t (e ∷ entries) some h cover = run_covered (table_after t e) entries (subst HasSlots (sym (layout_after t e)) some) h.1 (step_covered t e some h.0 cover)

pub run_layout : (t : Table) (entries : List Entry) → (fold table_after t entries).layout ≡ t.layout
run_layout t [] = refl
run_layout t (e ∷ entries) = run_layout (table_after t e) entries ∙ layout_after t e

-- a step of the last table makes a longer run
pub permitted_step : (l : Shape) (entries : List Entry) (e : Entry) (t u : Table) → t ≡ table_of_history l entries → IsPermitted (opening l) entries → IsStep t e u → IsPermitted (opening l) (entries ++ e ∷ []) × (u ≡ table_of_history l (entries ++ e ∷ [])) × (u.layout ≡ t.layout)
permitted_step l entries e t u last run step =
    (permitted_push (opening l) entries e run (subst (λ t. IsAllowed t e) last step.allowed), step.after ∙ ap (λ t. table_after t e) last ∙ sym (table_of_push l entries e), ap (λ t. t.layout) step.after ∙ layout_after t e)

-- recorded pairs lie outside their region
module _ (t : Table) (shape : IsShape t.layout) (slots : length t.refs ≡ slot_count t.layout) (places : All (λ target. IfSome target (λ place. place < slot_count t.layout)) t.refs) where
  -- a card that holds into a region is one of the heap, as the region is
  pub holds_outside : (card region : ℕ) → Holds t card region → (card < card_count t.layout) × (region < t.layout.regions) × (region_of_card t.layout card ≢ region)
  holds_outside card region h =
      let inside : h.slot < length t.refs = is_slot t.refs h.slot h.place h.refers in
      let place : h.place < slot_count t.layout = subst (λ (o : Option ℕ). IfSome o (λ p. p < slot_count t.layout)) h.refers (places h.slot None inside) in
      (omega (arith, card_of_below t.layout h.slot shape (omega (arith, inside, slots)), h.on_card), omega (arith, region_of_below t.layout h.place shape place, h.into), h.outside)

  pub refined_outside : (cards : List ℕ) → AreOutside t → AreOutside (refined cards t)
  refined_outside cards outside card region r = elim (recorded_cases cards t card region r) [
    | inl old ↦ outside card region old
    | inr held ↦ holds_outside card region (Holds_from_held t card region held)
  ]
