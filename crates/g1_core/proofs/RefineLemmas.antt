-- The turns of cards over the parts of a core.
use Rattle.std.specs.Prelude.{◌≡◌, ◌≢◌, ◌<◌, ◌≤◌, ◌+◌, ◌∷◌, ◌++◌}
use Rattle.g1_core.specs.{◌∙◌, inl, inr, ℕ, List, [], length, get_or, take, Option, Some, None, refl, sym, ap, subst, Contains, length-set, fold_more, Clean, Dirty, Held, Cells, with_mark, with_reads, Pairs, Offer, Cold, Kept, Out, Ring, answer, offered, cards_after, popped, PairSet, refined, State, IsCore, AreParts, table_from, state_from, machine_from, gained, Round, turn_by, turn, turns, start, offer_to, state_after, refined_by, hot_by, skipped_by}
use Rattle.g1_core.specs.Machine.{Machine, Settings}
use Rattle.g1_core.proofs.MarkLemmas.{held_clean, dirty_clean, is_card, mark_there}
use Rattle.g1_core.proofs.TurnLemmas.{answer_cases}
use Rattle.g1_core.proofs.RefinedLemmas.{refined_none}
use Rattle.g1_core.proofs.PartLemmas.{dirty_mark, offer_dirty, offer_none, IsMade, cleaned, held_last, apart_stands, oldest_mark, left_distinct, left_stands, differs, IsFront, some_pending}

-- the oldest card, where the ring answers that it leaves
pub is_out : (r : Ring) (card d : ℕ) → 1 ≤ r.capacity → answer r card ≡ Out d → IsFront r.cards d
is_out r card d some e = elim (answer_cases r card some) [
  | inl cold ↦ let both : Out d ≡ Cold = sym e ∙ cold in cc
  | inr (inl kept) ↦ let both : Out d ≡ Kept = sym e ∙ kept in cc
  | inr (inr o) ↦
      let both : Out o.oldest ≡ Out d = sym o.answers ∙ e in
      let same : o.oldest ≡ d = cc in
      record { rest = o.rest; cards = o.cards ∙ ap (λ (x : ℕ). x ∷ o.rest) same }
]

-- what the turn of a card leaves
pub record IsTurnedTo (m : Machine) (card : ℕ) (o : Option Offer) (heap' : Cells) (sets' : Pairs) (ring' : Ring) (pending' : ℕ) : Type 0 where
  pub core : IsCore heap' sets' ring' pending'
  pub offer : o ≡ offer_to m.state card
  pub state : state_from heap' sets'.pairs ring' ≡ state_after m.state card o

module _ (heap : Cells) (pairs : PairSet) (ring : Ring) (pending : ℕ) (parts : AreParts heap pairs ring pending) (card : ℕ) (dirty : get_or heap.marks card Clean ≡ Dirty) where
  as_many : length (offered ring card).counts ≡ length ring.counts
  as_many = length-set ring.counts card _

  cold_turn : (more pending' : ℕ) → pending' + 1 ≡ pending → answer ring card ≡ Cold → IsMade (with_mark (with_reads heap more) card Clean) (gained heap pairs card) (offered ring card) pending' (refined (card ∷ []) (table_from heap pairs))
  cold_turn more pending' less cold =
      let same : (offered ring card).cards ≡ ring.cards = ap (cards_after ring.cards card) cold in
      cleaned heap pairs ring pending parts (offered ring card) pending' card more (dirty_clean (get_or heap.marks card Clean) dirty) less as_many refl (rw same parts.distinct) (λ q. rw same (apart_stands heap pairs ring pending parts card dirty q))

  kept_turn : answer ring card ≡ Kept → IsMade (with_mark heap card Held) pairs (offered ring card) pending (refined [] (table_from heap pairs))
  kept_turn kept = subst (IsMade (with_mark heap card Held) pairs (offered ring card) pending) (sym (refined_none (table_from heap pairs))) (held_last heap pairs ring pending parts (offered ring card) card dirty as_many refl (ap (cards_after ring.cards card) kept))

  module _ (more pending' d : ℕ) (less : pending' + 1 ≡ pending) (out : answer ring card ≡ Out d) where
    front : IsFront ring.cards d
    front = is_out ring card d parts.some out

    d_marked : get_or heap.marks d Clean ≢ Clean
    d_marked = held_clean (get_or heap.marks d Clean) (oldest_mark heap pairs ring pending parts d front.rest front.cards)

    abbrev between : Cells
    between = with_mark (with_reads heap more) d Clean

    left : IsMade between (gained heap pairs d) (popped ring) pending' (refined (d ∷ []) (table_from heap pairs))
    left = cleaned heap pairs ring pending parts (popped ring) pending' d more d_marked less refl refl (left_distinct heap pairs ring pending parts d front.rest front.cards) (left_stands heap pairs ring pending parts d front.rest front.cards)

    still_dirty : get_or between.marks card Clean ≡ Dirty
    still_dirty = mark_there heap.marks d Clean (is_card heap.marks d d_marked) card (differs heap pairs ring pending parts d front.rest front.cards card dirty) ∙ dirty

    out_turn : IsMade (with_mark between card Held) (gained heap pairs d) (offered ring card) pending' (refined (d ∷ []) (table_from heap pairs))
    out_turn = subst (IsMade (with_mark between card Held) (gained heap pairs d) (offered ring card) pending') left.table (held_last between (gained heap pairs d) (popped ring) pending' left.parts (offered ring card) card still_dirty as_many refl (ap (cards_after ring.cards card) out))

module _ (heap : Cells) (sets : Pairs) (ring : Ring) (pending : ℕ) (settings : Settings) (m : Machine) (core : IsCore heap sets ring pending) (view : machine_from heap sets.pairs ring settings ≡ m) (card : ℕ) where
  -- a card that is not dirty has no turn
  pub none_offered : (get_or heap.marks card Clean ≢ Dirty) → None ≡ offer_to m.state card
  none_offered ne = sym (ap (λ (m : Machine). offer_to m.state card) (sym view) ∙ offer_none heap sets.pairs ring pending core.parts card ne)

  module _ (dirty : get_or heap.marks card Clean ≡ Dirty) where
    pub apart : Contains ring.cards card → ⊥
    apart = (dirty_mark heap sets.pairs ring pending core.parts card dirty).apart

    pub dirty_pending : 1 ≤ pending
    dirty_pending = some_pending heap sets.pairs ring pending core.parts card (dirty_clean (get_or heap.marks card Clean) dirty)

    module _ (offer : Offer) (answers : offer ≡ answer ring card) (heap' : Cells) (sets' : Pairs) (ring' : Ring) (pending' : ℕ) (ring_is : ring' ≡ offered ring card) where
      put : (o : Offer) (h : Cells) (p : PairSet) → offer ≡ o → h.layout ≡ heap.layout → heap' ≡ h → sets'.pairs ≡ p → sets'.layout ≡ sets.layout → IsMade h p (offered ring card) pending' (refined (refined_by card (Some o)) (table_from heap sets.pairs))
          → IsTurnedTo m card (Some offer) heap' sets' ring' pending'
      put o h p is same eh ep el t = record {
        core = record {
          layouts = el ∙ core.layouts ∙ sym same ∙ sym (ap (λ (c : Cells). c.layout) eh);
          parts = rw (eh, ep, ring_is) t.parts;
        };
        offer = sym (offer_dirty heap sets.pairs ring pending core.parts card offer dirty (sym answers)) ∙ ap (λ (m : Machine). offer_to m.state card) view;
        state = (λ i. state_from (eh i) (ep i) (ring_is i)) ∙ (λ i. record { table = t.table i; ring = offered ring card }) ∙ (λ i. state_after (view i).state card (Some (sym is i)));
      }

      pub turned_cold : (more : ℕ) → offer ≡ Cold → heap' ≡ with_mark (with_reads heap more) card Clean → sets'.pairs ≡ gained heap sets.pairs card → sets'.layout ≡ sets.layout → pending' + 1 ≡ pending → IsTurnedTo m card (Some offer) heap' sets' ring' pending'
      turned_cold more is eh ep el less = put Cold (with_mark (with_reads heap more) card Clean) (gained heap sets.pairs card) is refl eh ep el (cold_turn heap sets.pairs ring pending core.parts card dirty more pending' less (sym answers ∙ is))

      pub turned_kept : offer ≡ Kept → heap' ≡ with_mark heap card Held → sets' ≡ sets → pending' ≡ pending → IsTurnedTo m card (Some offer) heap' sets' ring' pending'
      turned_kept is eh es ep = put Kept (with_mark heap card Held) sets.pairs is refl eh (ap (λ (s : Pairs). s.pairs) es) (ap (λ (s : Pairs). s.layout) es) (rw ep (kept_turn heap sets.pairs ring pending core.parts card dirty (sym answers ∙ is)))

      pub turned_out : (more d : ℕ) → offer ≡ Out d → heap' ≡ with_mark (with_mark (with_reads heap more) d Clean) card Held → sets'.pairs ≡ gained heap sets.pairs d → sets'.layout ≡ sets.layout → pending' + 1 ≡ pending → IsTurnedTo m card (Some offer) heap' sets' ring' pending'
      turned_out more d is eh ep el less = put (Out d) (with_mark (with_mark (with_reads heap more) d Clean) card Held) (gained heap sets.pairs d) is refl eh ep el (out_turn heap sets.pairs ring pending core.parts card dirty more pending' d less (sym answers ∙ is))

-- the round that a tally tells
abbrev pub round_at : State → List ℕ → ℕ → ℕ → Round
round_at s refined hot skipped = record { state = s; refined = refined; hot = hot; skipped = skipped }

-- one turn more
pub turns_more : (s0 : State) (cards : List ℕ) (i card : ℕ) (s s' : State) (xs xs' : List ℕ) (hot hot' skipped skipped' : ℕ) (o : Option Offer) → i < length cards → card ≡ get_or cards i card → o ≡ offer_to s card → s' ≡ state_after s card o
    → xs' ≡ xs ++ refined_by card o → hot' ≡ hot + hot_by o → skipped' ≡ skipped + skipped_by o → round_at s xs hot skipped ≡ turns (start s0) (take i cards) → round_at s' xs' hot' skipped' ≡ turns (start s0) (take (i + 1) cards)
turns_more s0 cards i card s s' xs xs' hot hot' skipped skipped' o lt read offer state refined hot_is skipped_is h =
    let step : round_at s' xs' hot' skipped' ≡ turn_by (round_at s xs hot skipped) card o = λ i. record { state = state i; refined = refined i; hot = hot_is i; skipped = skipped_is i } in
    let all : turns (start s0) (take (i + 1) cards) ≡ turn (turns (start s0) (take i cards)) card = fold_more turn (start s0) cards i card lt ∙ ap (turn (turns (start s0) (take i cards))) (sym read) in
    step ∙ ap (turn_by (round_at s xs hot skipped) card) offer ∙ ap (λ (r : Round). turn r card) h ∙ sym all
