-- A row of words of a racer, each stored after the one before.
use Rattle.std.specs.Prelude.{◌≡◌, ◌⊎◌, ◌+◌, ◌<◌, ◌≤◌, ◌^◌, ◌∷◌, ◌++◌}
use Rattle.g1_handles.specs.{rules, ℕ, List, [], All, length, take, slice_index_or, refl, sym, subst, ◌∙◌, arith, Kind, CanStoreWord, SwapsWord, StoresWords, Pause, IsSameRace, IsWord, IsWordOf, StoresWordAt, StoresWordsAt, slot_count}
use Rattle.g1_handles.specs.Racing.{Racing}
use Rattle.g1_layout.specs.Shape as layout
use Rattle.g1_race_words.specs.declared.view.RaceShape.{RaceShape}
use Rattle.std.proofs.lemmas.List.{length-take-le, take_more}

-- one word more
more : (a b c : Racing) (p n : ℕ) (ws : List ℕ) (w old : ℕ) (k : Kind) → n ≡ p + length ws → StoresWords a p ws b → CanStoreWord b.race b.racer n w → SwapsWord b n w old k c → StoresWords a p (ws ++ w ∷ []) c
more a b c p n [] w old k at e can h =
    let here : n ≡ p = omega (arith, at) in (
      c,
      old,
      k,
      subst (λ (x : Racing). CanStoreWord x.race x.racer p w) e (subst (λ (m : ℕ). CanStoreWord b.race b.racer m w) here can),
      subst (λ (x : Racing). SwapsWord x p w old k c) e (subst (λ (m : ℕ). SwapsWord b m w old k c) here h),
      refl,
    )
more a b c p n (x ∷ ws) w old k at (m, o, j, could, first, rest) can h =
    (m, o, j, could, first, more m b c (p + 1) n ws w old k (omega (arith, at)) rest can h)

-- the first ones and the next
pub row_next : (a b c : Racing) (p : ℕ) (ws : List ℕ) (i d old : ℕ) (k : Kind) → i < length ws → StoresWords a p (take i ws) b
    → CanStoreWord b.race b.racer (p + i) (slice_index_or ws i d) → SwapsWord b (p + i) (slice_index_or ws i d) old k c → StoresWords a p (take (i + 1) ws) c
row_next a b c p ws i d old k below first can h =
    let shorter : length (take i ws) ≡ i = length-take-le i ws (omega (arith, below)) in
    subst (λ (ts : List ℕ). StoresWords a p ts c) (sym (take_more ws i d below)) (more a b c p (p + i) (take i ws) (slice_index_or ws i d) old k (omega (arith, shorter)) first can h)

-- one word more at a pause
more_at : (a b c : Pause) (p n : ℕ) (ws : List ℕ) (w : ℕ) (k : Kind) → n ≡ p + length ws → StoresWordsAt a p ws b → StoresWordAt b n w k c → StoresWordsAt a p (ws ++ w ∷ []) c
more_at a b c p n [] w k at e h =
    let here : n ≡ p = omega (arith, at) in
    (c, k, subst (λ (x : Pause). StoresWordAt x p w k c) e (subst (λ (m : ℕ). StoresWordAt b m w k c) here h), refl)
more_at a b c p n (x ∷ ws) w k at (m, j, first, rest) h = (m, j, first, more_at m b c (p + 1) n ws w k (omega (arith, at)) rest h)

pub row_next_at : (a b c : Pause) (p : ℕ) (ws : List ℕ) (i d : ℕ) (k : Kind) → i < length ws → StoresWordsAt a p (take i ws) b → StoresWordAt b (p + i) (slice_index_or ws i d) k c → StoresWordsAt a p (take (i + 1) ws) c
row_next_at a b c p ws i d k below first h =
    let shorter : length (take i ws) ≡ i = length-take-le i ws (omega (arith, below)) in
    subst (λ (ts : List ℕ). StoresWordsAt a p ts c) (sym (take_more ws i d below)) (more_at a b c p (p + i) (take i ws) (slice_index_or ws i d) k (omega (arith, shorter)) first h)

then_same : (a b c : Pause) → IsSameRace a b → IsSameRace b c → IsSameRace a c
then_same a b c ab bc = record {
  layout = bc.layout ∙ ab.layout;
  shape = bc.shape ∙ ab.shape;
  address = bc.address ∙ ab.address;
  table_id = bc.table_id ∙ ab.table_id;
  racers = bc.racers ∙ ab.racers;
  sweepers = bc.sweepers ∙ ab.sweepers;
  logs = bc.logs ∙ ab.logs;
}

-- all but the words stays
pub row_kept : (a b : Pause) (p : ℕ) (ws : List ℕ) → StoresWordsAt a p ws b → IsSameRace a b
row_kept a b p [] e = subst (λ (x : Pause). IsSameRace a x) (sym e) (search rules)
row_kept a b p (w ∷ ws) (m, k, h, rest) = then_same a m b h.race (row_kept m b (p + 1) ws rest)

-- a word of the row is one that a slot may have
pub row_word : (k : RaceShape) (l : layout.Shape) (ws : List ℕ) (i d : ℕ) → k.slots ≡ slot_count l → All (IsWordOf l) ws → i < length ws → IsWord k (slice_index_or ws i d)
row_word k l ws i d e fit below = subst (λ (n : ℕ). (slice_index_or ws i d ≤ n) ⊎ (2 ^ 32 ≤ slice_index_or ws i d)) (sym e) (fit i d below)

-- the heap has the same slots
pub row_slot : (a b : Pause) (p : ℕ) (ws : List ℕ) (slot : ℕ) → StoresWordsAt a p ws b → slot < slot_count a.layout → slot < slot_count b.layout
row_slot a b p ws slot stored lt = subst (λ (l : layout.Shape). slot < slot_count l) (sym (row_kept a b p ws stored).layout) lt
