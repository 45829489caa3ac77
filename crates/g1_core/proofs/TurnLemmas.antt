-- A round of turns refines distinct pending cards.
use Rattle.std.specs.Prelude.{◌≡◌, ◌≢◌, ◌⊎◌, ◌≤◌, ◌∷◌, ◌++◌}
use Rattle.g1_core.specs.{IsDistinct-tail, ◌∙◌, inl, inr, ℕ, suc, true, cond, List, [], length, get_or, take, drop, Option, Some, None, refl, sym, ap, subst, arith, Contains, All, nat_eq, nat_lt, not, IsDistinct, cases_lt, cases_Bool, and_parts, and_from, lt-ltb, le-ltb, not-true, true≢false, false_from_ne_true, append-nil, Contains-push_cases, All-contains, Offer, Cold, Kept, Out, Ring, answer, cards_after, IsPending, AreRefinable, refined, State, IsPlaced, RefineReply, IsStep, IsTurned, round_of, refine_entry, is_dirty, refined_by, state_after, Round, turn_by, turn, turns, start, cases_cond}
use Rattle.g1_core.specs.Table.{Table}
use Rattle.g1_core.proofs.SetLemmas.{All_by_member, in_list, in_set, front_apart}
use Rattle.g1_core.proofs.TableLemmas.{still_pending}
use Rattle.g1_core.proofs.MarkLemmas.{one_of}
use Rattle.g1_core.proofs.RefinedLemmas.{refined_none, refined_both, push_distinct, refinable_push}

-- what a round keeps, from the table at its start
pub record IsRound (t : Table) (r : Round) : Type 0 where
  pub table : r.state.table ≡ refined r.refined t
  pub refines : AreRefinable t r.refined
  pub placed : IsPlaced r.state

pub pending_but : (t : Table) (x q : ℕ) → IsPending t q → q ≢ x → IsPending (refined (x ∷ []) t) q
pending_but t x q is ne = still_pending (x ∷ []) t q is (false_from_ne_true _ (λ c. ne (one_of q x (in_list (x ∷ []) q c))))

-- what the ring may answer
pub record IsOut (r : Ring) (card : ℕ) : Type 0 where
  pub oldest : ℕ
  pub rest : List ℕ
  pub cards : r.cards ≡ oldest ∷ rest
  pub answers : answer r card ≡ Out oldest

out_of : (r : Ring) (card : ℕ) (cards : List ℕ) → r.cards ≡ cards → 1 ≤ length cards → answer r card ≡ Out (get_or cards 0 0) → IsOut r card
out_of r card [] is some e = absurd (omega arith)
out_of r card (x ∷ xs) is some e = record { oldest = x; rest = xs; cards = is; answers = e }

pub answer_cases : (r : Ring) (card : ℕ) → 1 ≤ r.capacity → (answer r card ≡ Cold) ⊎ ((answer r card ≡ Kept) ⊎ IsOut r card)
answer_cases r card some =
    let full = nat_lt (length r.cards) r.capacity in
    let front = get_or r.cards 0 0 in
    elim (cases_cond (nat_lt (get_or r.counts card 0) r.limit) Cold (cond full Kept (Out front)) (answer r card) refl) [
      | inl cold ↦ inl cold
      | inr hot ↦ elim (cases_lt (length r.cards) r.capacity) [
        | inl room ↦ inr (inl (hot ∙ ap (λ b. cond b Kept (Out front)) (lt-ltb _ _ room)))
        | inr none ↦ inr (inr (out_of r card r.cards refl (omega arith) (hot ∙ ap (λ b. cond b Kept (Out front)) (le-ltb _ _ none))))
      ]
    ]

-- a dirty card is pending and not in the ring
pub record IsDirty (s : State) (card : ℕ) : Type 0 where
  pub pending : IsPending s.table card
  pub apart : Contains s.ring.cards card → ⊥

pub dirty_from : (s : State) (card : ℕ) → is_dirty s card ≡ true → IsDirty s card
dirty_from s card h =
    let parts = and_parts _ _ h in
    record { pending = parts.0; apart = λ c. true≢false (sym (in_set s.ring.cards card c) ∙ not-true _ parts.1) }

pub to_dirty : (s : State) (card : ℕ) → IsPending s.table card → (Contains s.ring.cards card → ⊥) → is_dirty s card ≡ true
to_dirty s card p apart = and_from _ _ p (ap not (false_from_ne_true _ (λ c. apart (in_list s.ring.cards card c))))

module _ (s : State) (card : ℕ) (placed : IsPlaced s) (dirty : IsDirty s card) where
  other : (q : ℕ) → Contains s.ring.cards q → q ≢ card
  other q c e = dirty.apart (subst (Contains s.ring.cards) e c)

  in_ring : (q : ℕ) → Contains s.ring.cards q → IsPending s.table q
  in_ring q c = All-contains (IsPending s.table) s.ring.cards q placed.pending c

  -- the ring then holds distinct cards, each of them pending yet
  placed_by : (o : Offer) (xs : List ℕ) → answer s.ring card ≡ o → cards_after s.ring.cards card o ≡ xs → IsDistinct nat_eq xs → ((q : ℕ) → Contains xs q → IsPending (refined (refined_by card (Some o)) s.table) q) → IsPlaced (state_after s card (Some o))
  placed_by o xs is same distinct each =
      let cards : cards_after s.ring.cards card (answer s.ring card) ≡ xs = ap (cards_after s.ring.cards card) is ∙ same in
      record { some = placed.some; distinct = rw cards distinct; pending = rw cards (All_by_member (IsPending (refined (refined_by card (Some o)) s.table)) xs each) }

  pub cold_placed : answer s.ring card ≡ Cold → IsPlaced (state_after s card (Some Cold))
  cold_placed is = placed_by Cold s.ring.cards is refl placed.distinct (λ q c. pending_but s.table card q (in_ring q c) (other q c))

  pub kept_placed : answer s.ring card ≡ Kept → IsPlaced (state_after s card (Some Kept))
  kept_placed is = placed_by Kept (s.ring.cards ++ card ∷ []) is refl (push_distinct s.ring.cards card placed.distinct dirty.apart) (λ q c. subst (λ t. IsPending t q) (sym (refined_none s.table)) (elim (Contains-push_cases s.ring.cards card q c) [
    | inl old ↦ in_ring q old
    | inr new ↦ subst (IsPending s.table) new dirty.pending
  ]))

  pub out_placed : (o : IsOut s.ring card) → IsPlaced (state_after s card (Some (Out o.oldest)))
  out_placed o =
      let whole : IsDistinct nat_eq (o.oldest ∷ o.rest) = subst (IsDistinct nat_eq) o.cards placed.distinct in
      let stands : (q : ℕ) → Contains o.rest q → Contains s.ring.cards q = λ q c. rw o.cards (suc c.0, omega (arith, c.1), c.2) in
      placed_by (Out o.oldest) (o.rest ++ card ∷ []) o.answers (ap (λ (xs : List ℕ). drop 1 xs ++ card ∷ []) o.cards) (push_distinct o.rest card (IsDistinct-tail nat_eq o.oldest o.rest whole) (λ c. dirty.apart (stands card c))) (λ q c. elim (Contains-push_cases o.rest card q c) [
        | inl old ↦ pending_but s.table o.oldest q (in_ring q (stands q old)) (λ e. front_apart o.oldest o.rest whole (subst (Contains o.rest) e old))
        | inr new ↦ subst (IsPending (refined (o.oldest ∷ []) s.table)) new (pending_but s.table o.oldest card dirty.pending (λ e. other o.oldest (rw o.cards (0, omega arith, refl)) (sym e)))
      ])

  pub out_pending : (o : IsOut s.ring card) → IsPending s.table o.oldest
  out_pending o = in_ring o.oldest (rw o.cards (0, omega arith, refl))

-- one turn more
module _ (t : Table) (r : Round) (card : ℕ) (h : IsRound t r) where
  by : (o : Option Offer) → AreRefinable t (r.refined ++ refined_by card o) → IsPlaced (state_after r.state card o) → IsRound t (turn_by r card o)
  by o refines placed = record { table = ap (refined (refined_by card o)) h.table ∙ refined_both r.refined (refined_by card o) t; refines = refines; placed = placed }

  one_more : (x : ℕ) → IsPending r.state.table x → AreRefinable t (r.refined ++ x ∷ [])
  one_more x p = refinable_push t r.refined x h.refines (subst (λ t. IsPending t x) h.table p)

  no_more : AreRefinable t (r.refined ++ [])
  no_more = subst (AreRefinable t) (sym (append-nil r.refined)) h.refines

  skip_placed : IsPlaced (state_after r.state card None)
  skip_placed = record { some = h.placed.some; distinct = h.placed.distinct; pending = subst (λ t. All (IsPending t) r.state.ring.cards) (sym (refined_none r.state.table)) h.placed.pending }

  offered_round : IsDirty r.state card → IsRound t (turn_by r card (Some (answer r.state.ring card)))
  offered_round dirty = elim (answer_cases r.state.ring card h.placed.some) [
    | inl cold ↦ subst (λ (o : Offer). IsRound t (turn_by r card (Some o))) (sym cold) (by (Some Cold) (one_more card dirty.pending) (cold_placed r.state card h.placed dirty cold))
    | inr (inl kept) ↦ subst (λ (o : Offer). IsRound t (turn_by r card (Some o))) (sym kept) (by (Some Kept) no_more (kept_placed r.state card h.placed dirty kept))
    | inr (inr out) ↦ subst (λ (o : Offer). IsRound t (turn_by r card (Some o))) (sym out.answers) (by (Some (Out out.oldest)) (one_more out.oldest (out_pending r.state card h.placed dirty out)) (out_placed r.state card h.placed dirty out))
  ]

  pub turn_round : IsRound t (turn r card)
  turn_round = elim (cases_Bool (is_dirty r.state card)) [
    | inl has ↦ subst (λ b. IsRound t (turn_by r card (cond b (Some (answer r.state.ring card)) None))) (sym has) (offered_round (dirty_from r.state card has))
    | inr not_so ↦ subst (λ b. IsRound t (turn_by r card (cond b (Some (answer r.state.ring card)) None))) (sym not_so) (by None no_more skip_placed)
  ]

pub turns_round : (t : Table) (cards : List ℕ) (r : Round) → IsRound t r → IsRound t (turns r cards)
turns_round t [] r h = h
turns_round t (card ∷ cards) r h = turns_round t cards (turn r card) (turn_round t r card h)

pub start_round : (s : State) → IsPlaced s → IsRound s.table (start s)
unfolding IsDistinct
start_round s placed = record { table = sym (refined_none s.table); refines = record { distinct = tt; pending = λ k d lt. absurd (omega arith) }; placed = placed }

-- the turns of a list's first cards are a step of the table
pub turned_step : (caller : ℕ) (old new : State) (cards : List ℕ) (reply : RefineReply) → IsPlaced old → IsTurned old cards reply new → IsStep old.table (refine_entry caller reply) new.table
turned_step caller old new cards reply placed h =
    let round : IsRound old.table (round_of new reply) = subst (IsRound old.table) (sym h.turned) (turns_round old.table (take h.many cards) (start old) (start_round old placed)) in
    record { allowed = record { numbers = tt; refines = round.refines; answers = tt }; after = round.table }
