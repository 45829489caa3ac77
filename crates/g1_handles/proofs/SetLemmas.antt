-- The cards of a region's set, one after another.
use Rattle.std.specs.Prelude.{◌≡◌, ◌+◌, ◌<◌, ◌≤◌, ◌∷◌, ◌++◌}
use Rattle.g1_handles.specs.{drop, ℕ, List, [], length, set, take, Some, None, refl, sym, ap, ◌∙◌, subst, inl, inr, arith, cases_lt, length-set, length_push, take_more_set, Table, IsRecorded, AreMembers, IsNextMember, TellsSet, SetTold, First, HasFirst, Listed, Members, NoRoom, Lists, IsListOf}
use Rattle.std.proofs.lemmas.List.{set_past, take_all, take-append-drop, take-append-le, length-drop}
use Rattle.g1_race.proofs.Gathering.{Gathered, gathered_none, gathered_in, gathered_out}
use Rattle.g1_handles.specs.declared.heap.sets.SetTold.TheVariants.{All}

-- this many cards are the region's below a number, and the array has the first of them, as far as it reaches
pub record Shows (t : Table) (region from count : ℕ) (array : List ℕ) : Type 0 where
  pub cards : List ℕ
  pub gathered : Gathered (λ c. IsRecorded t c region) from cards
  pub counted : length cards ≡ count
  pub front : take count array ≡ take (length array) cards

pub shows_none : (t : Table) (region : ℕ) (array : List ℕ) → Shows t region 0 0 array
shows_none t region array = record { cards = []; gathered = gathered_none (λ c. IsRecorded t c region); counted = refl; front = sym (take_all (length array) [] (omega arith)) }

front_within : (array cards : List ℕ) (count card : ℕ) → count < length array → length cards ≡ count → take count array ≡ take (length array) cards
    → take (count + 1) (set array count card) ≡ take (length (set array count card)) (cards ++ card ∷ [])
front_within array cards count card below counted front =
    take_more_set array count card below ∙ (ap (λ (l : List ℕ). l ++ card ∷ []) (front ∙ take_all (length array) cards (omega arith))
    ∙ sym (take_all (length (set array count card)) (cards ++ card ∷ []) (omega (arith, length_push cards card, length-set array count card))))

front_beyond : (array cards : List ℕ) (count card : ℕ) → length array ≤ count → length cards ≡ count → take count array ≡ take (length array) cards
    → take (count + 1) (set array count card) ≡ take (length (set array count card)) (cards ++ card ∷ [])
front_beyond array cards count card full counted front =
    subst (λ (l : List ℕ). take (count + 1) l ≡ take (length l) (cards ++ card ∷ [])) (sym (set_past array count card full))
    (take_all (count + 1) array (omega arith) ∙ (sym (take_all count array full) ∙ (front ∙ sym (take-append-le (length array) cards (card ∷ []) (omega arith)))))

-- one card more
pub shows_next : (t : Table) (region from count card : ℕ) (array : List ℕ) → IsNextMember t region from (Some card)
    → Shows t region from count array → Shows t region (card + 1) (count + 1) (set array count card)
shows_next t region from count card array next s = record {
  cards = s.cards ++ card ∷ [];
  gathered = gathered_in (λ c. IsRecorded t c region) card s.cards
      (gathered_out (λ c. IsRecorded t c region) from card s.cards next.0 s.gathered (λ x le lt r. absurd (let a : card ≤ x = next.2 x le r in omega (arith, a, lt))))
      next.1;
  counted = length_push s.cards card ∙ ap (λ (n : ℕ). n + 1) s.counted;
  front = elim (cases_lt count (length array)) [
    | inl below ↦ front_within array s.cards count card below s.counted s.front
    | inr full ↦ front_beyond array s.cards count card full s.counted s.front
  ];
}

-- there are no more
members_of : (t : Table) (region from count : ℕ) (array : List ℕ) (s : Shows t region from count array) → IsNextMember t region from None → AreMembers t region s.cards
members_of t region from count array s none = record {
  ascending = s.gathered.ascending;
  recorded = s.gathered.only;
  all = λ c r. elim (cases_lt c from) [ inl low ↦ s.gathered.every c low r | inr high ↦ absurd (none c high r) ];
}

pub shows_all : (t : Table) (region from count : ℕ) (array : List ℕ) → Shows t region from count array → IsNextMember t region from None → count ≤ length array → AreMembers t region (take count array)
shows_all t region from count array s none fit =
    subst (AreMembers t region) (sym (s.front ∙ take_all (length array) s.cards (omega (arith, s.counted, fit)))) (members_of t region from count array s none)

pub shows_first : (t : Table) (region from count : ℕ) (array : List ℕ) → Shows t region from count array → IsNextMember t region from None → length array < count → HasFirst (AreMembers t region) array count
shows_first t region from count array s none more =
    let rest = drop (length array) s.cards in
    let full : array ≡ take (length array) s.cards = sym (take_all count array (omega (arith, more))) ∙ s.front in
    record {
      rest = rest;
      so = subst (AreMembers t region) (sym (ap (λ (l : List ℕ). l ++ rest) full ∙ take-append-drop (length array) s.cards)) (members_of t region from count array s none);
      counted = omega (arith, s.counted, length-drop (length array) s.cards, more);
      more = more;
    }

-- what is so of a list is so of what C is told of it
pub tells_so : (P Q : List ℕ → Type 0) (old : List ℕ) (told : SetTold) (new : List ℕ) → ((cs : List ℕ) → P cs → Q cs) → TellsSet P old told new → TellsSet Q old told new
tells_so P Q old (All count) new so h = (so _ h.0, h.1)
tells_so P Q old (First count) new so h = (record { rest = h.0.rest; so = so _ h.0.so; counted = h.0.counted; more = h.0.more }, h.1)

pub lists_so : (AreSo : List ℕ → Type 0) (cards : List ℕ) (room : ℕ) (told : Listed) → AreSo cards → IsListOf cards room told → Lists AreSo room told
lists_so AreSo cards room (Members list) so is = (subst AreSo (sym is.0) so, is.1)
lists_so AreSo cards room (NoRoom count) so is = record { cards = is.cards; so = subst AreSo (sym is.so) so; counted = is.counted; more = is.more }
