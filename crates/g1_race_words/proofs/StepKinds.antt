-- Each step is one of the five kinds, or changes nothing that is seen.
use Rattle.std.specs.Prelude.{◌≡◌, ◌⊎◌, ◌+◌, ◌*◌, ◌/◌, ◌<◌, ◌≤◌, ◌∷◌, ◌++◌}
use Rattle.g1_race_words.specs.{ℕ, cond, eqb, List, [], map, set, Bool, true, false, refl, sym, ap, ◌∙◌, subst, inl, inr, arith, take-set-le, take-take, map-set, at_map, set_again, RaceShape, View, bit_word, flag, front, wrote, WordStep, Write, Exchange, Look, Dirty, Spot, Raise, Clean, Read, Seek, Record, TableState, Makes, May, Run, SeenRun, RunsAreOfFive, StepsAreOfFive, after, five_of, fives_of, found_by, left_by, place_of, seen, seen_view}
use Rattle.std.proofs.Math.Seq.{take-set-lt}
use Rattle.g1_race_words.proofs.Places.{at_take}

seen_twice : (views : List View) → map seen_view (map seen_view views) ≡ map seen_view views
seen_twice [] = refl
seen_twice (v ∷ vs) = ap (λ l. seen_view v ∷ l) (seen_twice vs)

status_is : (a b : TableState) → a.words ≡ b.words → a.views ≡ b.views → a ≡ b
status_is a b words views = λ i. record { words = words i; views = views i }

beyond : (a b c : ℕ) → a + b ≤ a + b + c
beyond a b c = omega arith

module _ (heap : RaceShape) where
  abbrev many : ℕ
  many = heap.slots + heap.cards

  -- a step that shows nowhere
  quiet : (seat : ℕ) (step : WordStep) (before next : TableState) (m : Makes heap seat step before next) → front heap next.words ≡ front heap before.words → seen_view (after step m.view) ≡ seen_view m.view → seen heap next ≡ seen heap before
  quiet seat step before next m words view = status_is (seen heap next) (seen heap before) words
      (ap (map seen_view) m.views ∙ (map-set seen_view before.views seat (after step m.view)
      ∙ (ap (λ (v : View). set (map seen_view before.views) seat v) view ∙ set_again (map seen_view before.views) seat (seen_view m.view) (at_map seen_view before.views seat m.view m.mine))))

  -- one on the bit of a pair or on a flag
  on_bit : (seat : ℕ) (step : WordStep) (before next : TableState) (m : Makes heap seat step before next) (pair : ℕ × ℕ) → place_of heap step ≡ bit_word heap pair → seen_view (after step m.view) ≡ seen_view m.view → seen heap next ≡ seen heap before
  on_bit seat step before next m pair at view = quiet seat step before next m
      (ap (front heap) m.words ∙ take-set-le many before.words (place_of heap step) (left_by heap step) (subst (λ (p : ℕ). many ≤ p) (sym at) (beyond heap.slots heap.cards (pair.1 * heap.row + pair.0 / 64)))) view

  -- an exchange that finds another word than it expects
  module _ (seat p old n f : ℕ) (before next : TableState) (m : Makes heap seat (Exchange p old n f) before next) where
    fails : eqb f old ≡ false → seen heap next ≡ seen heap before
    fails e = quiet seat (Exchange p old n f) before next m
        (ap (front heap) (m.words ∙ (ap (λ (b : Bool). set before.words p (cond b n f)) e ∙ set_again before.words p f m.found)))
        (ap (λ (b : Bool). seen_view (cond b (wrote m.view p n f) m.view)) e)

    -- and one that finds it
    stores : eqb f old ≡ true → Makes heap seat (Write p n f) before next
    stores e = record {
      view = m.view;
      mine = m.mine;
      may = m.may;
      found = m.found;
      words = m.words ∙ ap (λ (b : Bool). set before.words p (cond b n f)) e;
      views = m.views ∙ ap (λ (b : Bool). set before.views seat (cond b (wrote m.view p n f) m.view)) e;
    }

    abbrev as_write : List (ℕ × WordStep)
    as_write = (seat, Write p n f) ∷ []

    listed : (b : Bool) → eqb f old ≡ b → five_of seat (Exchange p old n f) ≡ cond b as_write []
    listed b e = ap (λ (b : Bool). cond b as_write []) e

  -- one of the five, on what is seen
  shows : (seat : ℕ) (step : WordStep) (before next : TableState) (m : Makes heap seat step before next) → place_of heap step < many → May heap step (seen_view m.view) → seen_view (after step (seen_view m.view)) ≡ seen_view (after step m.view)
      → SeenRun heap (seen heap before) ((seat, step) ∷ []) (seen heap next)
  shows seat step before next m lt may view = (
    c,
    record { view = seen_view m.view; mine = at_map seen_view before.views seat m.view m.mine; may = may; found = at_take before.words many (place_of heap step) (found_by step) lt m.found; words = refl; views = refl },
    status_is (seen heap c) (seen heap next)
        (ap (front heap) (sym is) ∙ (take-take many many (set before.words (place_of heap step) (left_by heap step)) (omega arith) ∙ ap (front heap) (sym m.words)))
        (map-set seen_view (map seen_view before.views) seat (after step (seen_view m.view))
        ∙ ((λ i. set (seen_twice before.views i) seat (view i)) ∙ (sym (map-set seen_view before.views seat (after step m.view)) ∙ ap (map seen_view) (sym m.views)))),
  )
    where
      c : TableState
      c = record { words = set (front heap before.words) (place_of heap step) (left_by heap step); views = set (map seen_view before.views) seat (after step (seen_view m.view)) }

      is : front heap (set before.words (place_of heap step) (left_by heap step)) ≡ set (front heap before.words) (place_of heap step) (left_by heap step)
      is = take-set-lt many before.words (place_of heap step) (left_by heap step) lt

  -- a step is one of the five, which shows, or it shows nowhere
  abbrev Kind : ℕ → WordStep → TableState → TableState → Type 0
  Kind seat step before next = ((five : WordStep) × (five_of seat step ≡ (seat, five) ∷ []) × Makes heap seat five before next × SeenRun heap (seen heap before) ((seat, five) ∷ []) (seen heap next))
      ⊎ ((five_of seat step ≡ []) × (seen heap next ≡ seen heap before))

  kind : (seat : ℕ) (step : WordStep) (before next : TableState) → Makes heap seat step before next → Kind seat step before next
  kind seat (Write p n f) before next m = inl (Write p n f, refl, m, shows seat (Write p n f) before next m (omega (arith, m.may.2)) m.may refl)
  kind seat (Exchange p old n f) before next m = pick (eqb f old) refl
    where
      pick : (b : Bool) → eqb f old ≡ b → Kind seat (Exchange p old n f) before next
      pick true e = let s = stores seat p old n f before next m e in inl (Write p n f, listed seat p old n f before next m true e, s, shows seat (Write p n f) before next s (omega (arith, s.may.2)) s.may refl)
      pick false e = inr (listed seat p old n f before next m false e, fails seat p old n f before next m e)
  kind seat (Look c f) before next m = inl (Look c f, refl, m, shows seat (Look c f) before next m (omega (arith, m.may.1)) m.may refl)
  kind seat (Dirty c f) before next m = inl (Dirty c f, refl, m, shows seat (Dirty c f) before next m (omega (arith, m.may.1)) m.may refl)
  kind seat (Spot c f) before next m = inr (refl, on_bit seat (Spot c f) before next m (flag heap c) refl refl)
  kind seat (Raise c f) before next m = inr (refl, on_bit seat (Raise c f) before next m (flag heap c) refl refl)
  kind seat (Clean c f) before next m = inl (Clean c f, refl, m, shows seat (Clean c f) before next m (omega (arith, m.may.1)) m.may refl)
  kind seat (Read p f) before next m = inl (Read p f, refl, m, shows seat (Read p f) before next m (omega (arith, m.may.2)) m.may refl)
  kind seat (Seek x f) before next m = inr (refl, on_bit seat (Seek x f) before next m x refl refl)
  kind seat (Record x f) before next m = inr (refl, on_bit seat (Record x f) before next m x refl refl)

  follow : (xs ys : List (ℕ × WordStep)) (a b c : TableState) → SeenRun heap a xs b → SeenRun heap b ys c → SeenRun heap a (xs ++ ys) c
  follow [] ys a b c e r = subst (λ (s : TableState). SeenRun heap s ys c) (sym e) r
  follow (x ∷ xs) ys a b c (next, made, rest) r = (next, made, follow xs ys (seen heap next) b c rest r)

  one : (seat : ℕ) (step : WordStep) (before next : TableState) → Kind seat step before next → SeenRun heap (seen heap before) (five_of seat step) (seen heap next)
  one seat step before next (inl (five, is, made, shown)) = rw is shown
  one seat step before next (inr (is, same)) = rw is (sym same)

  runs_are : (first last : TableState) (moves : List (ℕ × WordStep)) → Run heap first moves last → SeenRun heap (seen heap first) (fives_of moves) (seen heap last)
  runs_are first last [] e = ap (seen heap) e
  runs_are first last (m ∷ ms) (next, made, rest) = follow (five_of m.0 m.1) (fives_of ms) (seen heap first) (seen heap next) (seen heap last) (one m.0 m.1 first next (kind m.0 m.1 first next made)) (runs_are next last ms rest)

pub steps_are_of_five : StepsAreOfFive
steps_are_of_five heap seat step before next made = elim (kind heap seat step before next made) [ inl x ↦ inl (x.0, x.1, x.2) | inr none ↦ inr none ]

pub runs_are_of_five : RunsAreOfFive
runs_are_of_five = runs_are
