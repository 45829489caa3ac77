-- The table that a race of scripts leaves, by what its racers have stored.
use Rattle.std.specs.Prelude.{◌^◌, ◌≡◌, ◌≢◌, ◌⊎◌, ◌<◌, ◌+◌, ◌-◌, ◌≤◌}
use Rattle.g1_replay.specs.{◌∙◌, ℕ, List, length, take, ap, sym, subst, refl, arith, Option, Some, None, inl, inr, ⊎_elim, Contains, get_or, length-map, slot_count, card_count, Holds, IsCovered, IsRecorded, IsPairOf, View, Begun, StoreHistory, BeganInto, In, histories_of, last_to, Among, AmongStores, IsKnown, IsOver, shape_of, word_of, null_begun, Ended, refs_of, table_of, target_of_word, in_contains, reads_as, read_at, Command, Store, AreLeftBy, StoresInto, last_by, IsTableLeftBy}
use mathlib.Core.Option.{some}
use lib.ListN.{get_elem?}
use Rattle.std.proofs.lemmas.List.{length-take-le}
use Rattle.g1_layout.specs.Shape as layout
use Rattle.g1_core.proofs.SetLemmas.{in_pairs}
use Rattle.g1_race_words.proofs.AtBeginning.{at_zeros}
use Rattle.g1_race.proofs.Draining.{in_shape, known_once, stored_now}
use Rattle.g1_race.proofs.Ends.{refs_here, target_some}
use Rattle.g1_race_words.proofs.Crossing.{crosses_reference}
use Rattle.g1_race_words.proofs.Reading.{last_in}
use Rattle.g1_replay.proofs.StoreLemmas.{as_word, in_own, last_own, own}

-- a word that is stored last tells what is
last_target : (o : Option (Option ℕ)) (n : ℕ) → n < 2 ^ 32 → as_word o ≡ Some n → o ≡ Some (target_of_word n)
last_target None n low e = cc
last_target (Some None) n low e = let z : 0 ≡ n = cc in ap (λ (m : ℕ). Some (target_of_word m)) z
last_target (Some (Some place)) n low e =
    let w : place + 1 ≡ n = cc in
    let some_n : n ≢ 0 = λ z. absurd (omega arith) in
    let back : place ≡ n - 1 = omega arith in
    ap (λ (p : ℕ). Some (Some p)) back ∙ ap (λ (t : Option ℕ). Some t) (sym (target_some n (some_n, low)))

none_last : (o : Option (Option ℕ)) → as_word o ≡ None → o ≡ None
none_last None e = refl
none_last (Some t) e = cc

-- a word that is not 0 has a place
some_place : (t : Option ℕ) (n : ℕ) → n ≢ 0 → n ≡ word_of t → (place : ℕ) × (t ≡ Some place) × (place ≡ n - 1)
some_place None n ne e = absurd (ne e)
some_place (Some place) n ne e = let w : n ≡ place + 1 = e in (place, refl, omega arith)

module _ (e : Ended) (parties mutators : ℕ) (commands : List Command) (views sweepers : List View) (over : IsOver (null_begun e.layout parties) e.words views sweepers)
    (each : (h : StoreHistory) → Among histories_of views h → (m : ℕ) × (m < mutators) × (h.1 ≡ own m commands))
    (every : (m : ℕ) → m < mutators → (h : StoreHistory) × Among histories_of views h × (h.1 ≡ own m commands))
    (low : (m slot word : ℕ) → m < mutators → In (own m commands) (slot, word) → word < 2 ^ 32) where
  abbrev begun : Begun
  begun = null_begun e.layout parties

  refs_left : AreLeftBy e.layout mutators commands (refs_of e)
  refs_left = record {
    sized = length-map (take (slot_count e.layout) e.words) target_of_word ∙ length-take-le (slot_count e.layout) e.words (let sized : length e.words ≡ slot_count e.layout + card_count e.layout = over.sized in let le : slot_count e.layout ≤ length e.words = omega arith in le);
    last = λ slot lt. left slot lt (get_or e.words slot 0) (read_at e.words slot (let sized : length e.words ≡ slot_count e.layout + card_count e.layout = over.sized in let l : slot < length e.words = omega arith in l));
  }
    where
      left : (slot : ℕ) → slot < slot_count e.layout → (n : ℕ) → get_elem? e.words slot ≡ some n → ((mutator : ℕ) × (mutator < mutators) × (last_by mutator slot commands ≡ Some (get_or (refs_of e) slot None)))
          ⊎ ((get_or (refs_of e) slot None ≡ None) × ((mutator : ℕ) → mutator < mutators → last_by mutator slot commands ≡ None))
      left slot lt n at =
          let refers : get_or (refs_of e) slot None ≡ target_of_word n = reads_as (refs_of e) slot (target_of_word n) None (refs_here e slot n lt at) in
          ⊎_elim
          (λ (x : (h : StoreHistory) × Among histories_of views h × (last_to slot h.1 ≡ Some n)).
          let by = each x.0 x.1 in
          let last : as_word (last_by by.0 slot commands) ≡ Some n = sym (last_own by.0 slot commands) ∙ ap (λ (l : List (ℕ × ℕ)). last_to slot l) (sym by.2) ∙ x.2 in
          let small = low by.0 slot n by.1 (subst (λ (l : List (ℕ × ℕ)). In l (slot, n)) by.2 (last_in slot n x.0.1 x.2)) in
          inl (by.0, by.1, last_target (last_by by.0 slot commands) n small last ∙ ap (λ (t : Option ℕ). Some t) (sym refers)))
          (λ (x : (get_elem? begun.words slot ≡ some n) × ((h : StoreHistory) → Among histories_of views h → last_to slot h.1 ≡ None)).
          let null : n ≡ 0 = at_zeros (slot_count e.layout + card_count e.layout) slot n x.0 in
          inr (refers ∙ ap target_of_word null, λ m lt. let own_h = every m lt in none_last (last_by m slot commands) (sym (last_own m slot commands) ∙ ap (λ (l : List (ℕ × ℕ)). last_to slot l) (sym own_h.2) ∙ x.1 own_h.0 own_h.1)))
          (over.last slot n lt at)

  stored_into : (card region : ℕ) → AmongStores (shape_of e.layout parties) views (card, region) → StoresInto e.layout commands card region
  stored_into card region s =
      let k = shape_of e.layout parties in
      let slot = s.1 in
      let n = s.2 in
      let by = each s.0 s.3 in
      let store = in_own by.0 slot n commands (subst (λ (l : List (ℕ × ℕ)). In l (slot, n)) by.2 s.4) in
      let at = some_place store.1 n (crosses_reference k slot n s.5.2).0 store.3 in
      record {
        mutator = store.0;
        slot = slot;
        place = at.0;
        stores = in_contains commands _ (subst (λ (t : Option ℕ). In commands (Store store.0 slot t)) at.1 store.2);
        on_card = ap (λ (x : ℕ × ℕ). x.0) s.6;
        into = ap (λ (p : ℕ). layout.region_of e.layout p) at.2 ∙ ap (λ (x : ℕ × ℕ). x.1) s.6;
      }

  -- nothing was there at the beginning
  had : (card region : ℕ) → AmongStores (shape_of e.layout parties) views (card, region) ⊎ BeganInto (shape_of e.layout parties) begun.words (card, region) ⊎ In begun.pairs (card, region) → StoresInto e.layout commands card region
  had card region (inl s) = stored_into card region s
  had card region (inr (inl b)) = absurd ((crosses_reference (shape_of e.layout parties) b.0 b.1 b.3.2).0 (at_zeros (slot_count e.layout + card_count e.layout) b.0 b.1 b.2))
  had card region (inr (inr i)) = absurd i

  pub table_left : IsCovered (table_of e) → ((x : ℕ × ℕ) → Contains e.pairs x → IsPairOf e.layout x) → ((x : ℕ × ℕ) → Contains e.pairs x → IsKnown begun sweepers x) → IsTableLeftBy mutators commands e
  table_left cover within known = record {
    left = refs_left;
    covered = cover;
    pairs = λ card region r. within (card, region) (in_pairs e.pairs (card, region) r);
    had = λ card region h. ⊎_elim
        (λ (r : IsRecorded (table_of e) card region). had card region (known_once begun e.words views sweepers over card region (known (card, region) (in_pairs e.pairs (card, region) r))))
        (λ (x : Holds (table_of e) card region). had card region (stored_now begun e.words views sweepers over card region (in_shape e parties card region x)))
        h;
  }
