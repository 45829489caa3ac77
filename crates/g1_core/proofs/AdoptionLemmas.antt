-- A core that is made of references, marked cards and pairs, taken over one by one, and its pairs, listed by
-- region.
use Rattle.std.specs.Prelude.{◌≡◌, ◌+◌, ◌<◌, ◌∷◌, ◌++◌, ◌-◌, ◌≤◌}
use Rattle.g1_core.specs.{◌∙◌, ℕ, Bool, true, false, List, [], length, take, drop, get_or, refl, sym, ap, arith, replicate, false_from_ne_true, get_or-map, length-map, length-replicate, take_more, pair_cmp, Mark, Clean, Dirty, of_card, pending_of, mark_for, marks_for, append_assoc, length-append, add-one, drop-cons, list_set, get_or-append_right, get_or-drop, length-drop, length-take, set-append_right, set-get_or, zero, suc, map, sum_by, append-nil, sum_by-cons, Pairs, AreTied, list_at, pairs_from, pairs_of, Option, subst, All, IsDistinct, Shape, card_count, PairSet, Held, Cells, AreCells, Ring, new_ring, IsCovered, AreOutside, IsCore, AreParts, table_from, IsPairOf, table_with, true_from_ne_false}
use Rattle.std.specs.FinSet as set
use Rattle.g1_core.proofs.SetLemmas.{pair_total, pair_exact, same_pairs, All_by_member, in_pairs, to_pairs}
use Rattle.g1_core.proofs.MarkLemmas.{dirty_clean, from_pending, pending_marked, one_more, to_pending}
use Rattle.g1_core.proofs.OpeningLemmas.{all_clean}
use Rattle.g1_sets.proofs.PairLemmas.{in_set, to_set}
use Rattle.g1_sets.proofs.TotalLemmas.{total_is}
use Rattle.g1_core.specs.Machine.{Settings, Table}

module _ {X : Type 0} where
  -- the first i items are new, and the others old: one more becomes new
  pub put_next : (xs ys : List X) (i : ℕ) (d : X) → i < length xs → i < length ys → list_set (take i xs ++ drop i ys) i (get_or xs i d) ≡ take (i + 1) xs ++ drop (i + 1) ys
  put_next xs ys i d lt lt' =
      let many : length (take i xs) ≡ i = omega (arith, length-take i xs) in
      let first : i - i ≡ 0 = omega arith in
      set-append_right (take i xs) (drop i ys) i i (get_or xs i d) many (omega arith) ∙ rw (first, drop-cons ys i d lt', take_more xs i d lt, append_assoc, add-one) refl

  pub at_place : (xs ys : List X) (i : ℕ) (d : X) → i < length xs → i < length ys → (get_or (take i xs ++ drop i ys) i d ≡ get_or ys i d) × (i < length (take i xs ++ drop i ys))
  at_place xs ys i d lt lt' =
      let many : length (take i xs) ≡ i = omega (arith, length-take i xs) in
      let same : i + (i - i) ≡ i = omega arith in
      (get_or-append_right (take i xs) (drop i ys) i i d many (omega arith) ∙ get_or-drop i ys (i - i) d ∙ ap (λ (k : ℕ). get_or ys k d) same, omega (arith, length-append (take i xs) (drop i ys), length-drop i ys))

  pub keep_next : (xs ys : List X) (i : ℕ) (d : X) → i < length xs → i < length ys → get_or xs i d ≡ get_or ys i d → take i xs ++ drop i ys ≡ take (i + 1) xs ++ drop (i + 1) ys
  keep_next xs ys i d lt lt' e = sym (set-get_or (take i xs ++ drop i ys) i d) ∙ ap (list_set (take i xs ++ drop i ys) i) ((at_place xs ys i d lt lt').0 ∙ sym e) ∙ put_next xs ys i d lt lt'

-- one more pair is recorded
module _ (pairs : List (ℕ × ℕ)) (i : ℕ) (p : ℕ × ℕ) (lt : i < length pairs) (is : p ≡ get_or pairs i p) where
  whole : take (i + 1) pairs ≡ take i pairs ++ p ∷ []
  whole = take_more pairs i p lt ∙ ap (λ (q : ℕ × ℕ). take i pairs ++ q ∷ []) (sym is)

  pub record_next : set.union (set.from_list {R = pair_cmp} (take i pairs)) (of_card p.0 (p.1 ∷ [])) ≡ set.from_list (take (i + 1) pairs)
  record_next = set.same_set pair_total pair_exact _ _ (λ x. simp (set.contains-union pair_total, set.contains-insert pair_total, set.contains-empty) (grind arith)) ∙ sym (ap (λ (ps : List (ℕ × ℕ)). set.from_list {R = pair_cmp} ps) whole ∙ set.from_list_push pair_total pair_exact (take i pairs) p)

-- one more card is marked, or is not
module _ (marked : List Bool) (n i : ℕ) (lt : i < length marked) (count : length marked ≡ n) where
  abbrev pub done : ℕ → List Mark
  done j = take j (marks_for marked) ++ drop j (replicate n Clean)

  few : i < length (marks_for marked)
  few = omega (arith, length-map marked mark_for)

  inside : i < length (replicate {A = Mark} n Clean)
  inside = omega (arith, length-replicate {A = Mark} n Clean)

  flag : (b : Bool) → get_or marked i false ≡ b → get_or (marks_for marked) i Clean ≡ mark_for b
  flag b e = get_or-map mark_for marked i false Clean lt ∙ ap mark_for e

  clean : get_or (done i) i Clean ≡ Clean
  clean = (at_place (marks_for marked) (replicate n Clean) i Clean few inside).0 ∙ all_clean n i

  pub marked_next : get_or marked i false ≡ true → list_set (done i) i Dirty ≡ done (i + 1)
  marked_next e = ap (λ (m : Mark). list_set (done i) i m) (sym (flag true e)) ∙ put_next (marks_for marked) (replicate n Clean) i Clean few inside

  pub clean_next : get_or marked i false ≡ false → done i ≡ done (i + 1)
  clean_next e = keep_next (marks_for marked) (replicate n Clean) i Clean few inside (flag false e ∙ sym (all_clean n i))

  pub one_pending : set.len (pending_of (list_set (done i) i Dirty)) ≡ set.len (pending_of (done i)) + 1
  one_pending = ap set.len (pending_marked (done i) i Dirty (at_place (marks_for marked) (replicate n Clean) i Clean few inside).1 (dirty_clean Dirty refl))
      ∙ one_more (pending_of (done i)) i (false_from_ne_true _ (λ h. from_pending (done i) i h clean))

-- the pairs of one region more
pub pairs_more : (first : ℕ) (lists : List (List ℕ)) (n region : ℕ) → region ≡ first + n → n < length lists
    → pairs_from first (take (suc n) lists) ≡ pairs_from first (take n lists) ++ map (λ (card : ℕ). (card, region)) (list_at lists n)
pairs_more first [] n region is below = absurd (omega (arith, below))
pairs_more first (cards ∷ lists) zero region is below =
    let here : first ≡ region = omega (arith, is) in
    append-nil (map (λ (card : ℕ). (card, first)) cards) ∙ ap (λ (r : ℕ). map (λ (card : ℕ). (card, r)) cards) here
pairs_more first (cards ∷ lists) (suc n) region is below =
    let row : List (ℕ × ℕ) = map (λ (card : ℕ). (card, first)) cards in
    let rest = pairs_more (first + 1) lists n region (omega (arith, is)) (omega (arith, below)) in
    ap (λ (ps : List (ℕ × ℕ)). row ++ ps) rest ∙ sym (append_assoc row (pairs_from (first + 1) (take n lists)) (map (λ (card : ℕ). (card, region)) (list_at lists n)))

length_from : (first : ℕ) (lists : List (List ℕ)) → length (pairs_from first lists) ≡ sum_by length lists
length_from first [] = refl
length_from first (cards ∷ lists) = omega (arith, length-append (map (λ (card : ℕ). (card, first)) cards) (pairs_from (first + 1) lists), length-map {B = ℕ × ℕ} cards (λ (card : ℕ). (card, first)), length_from (first + 1) lists, sum_by-cons length cards lists)

module _ (sets : Pairs) (tied : AreTied sets) where
  pub all_recorded : pairs_of sets.lists ≡ sets.pairs
  all_recorded = same_pairs _ _
      (λ x c. (tied.members x.0 x.1).0 (in_set sets.lists x.0 x.1 c))
      (λ x c. to_set sets.lists x.0 x.1 ((tied.members x.0 x.1).1 c))

  pub each_once : length (pairs_from 0 sets.lists) ≡ set.len sets.pairs
  each_once = length_from 0 sets.lists ∙ total_is sets.lists tied.lists.distinct ∙ ap (λ s. set.len s) all_recorded

-- the marked cards are just those that are pending
mark_at : (marked : List Bool) (card : ℕ) → get_or (marks_for marked) card Clean ≡ mark_for (get_or marked card false)
mark_at [] card = refl
mark_at (b ∷ bs) zero = refl
mark_at (b ∷ bs) (suc card) = mark_at bs card

pub flag_pending : (marked : List Bool) (card : ℕ) → get_or marked card false ≡ true → set.contains (pending_of (marks_for marked)) card ≡ true
flag_pending marked card e = to_pending (marks_for marked) card (λ clean. dirty_clean Dirty refl (sym (mark_at marked card ∙ ap mark_for e) ∙ clean))

pub pending_flag : (marked : List Bool) (card : ℕ) → set.contains (pending_of (marks_for marked)) card ≡ true → get_or marked card false ≡ true
pending_flag marked card h = true_from_ne_false _ (λ e. from_pending (marks_for marked) card h (mark_at marked card ∙ ap mark_for e))

-- no mark is that of a held card
pub never_held : (marked : List Bool) (card : ℕ) → get_or (marks_for marked) card Clean ≡ Held → ⊥
never_held marked card e = let is = mark_at marked card in grind arith

-- the parts of such a core
module _ (l : Shape) (s : Settings) (refs : List (Option ℕ)) (marked : List Bool) (pairs : List (ℕ × ℕ)) (limit capacity pending : ℕ) (heap : Cells) (sets : Pairs) (ring : Ring)
    (some : 1 ≤ capacity) (el : limit ≡ s.hot) (ec : capacity ≡ s.ring) (cells : AreCells heap)
    (eh : heap ≡ record { layout = l; refs = refs; marks = marks_for marked; reads = 0 }) (layouts : sets.layout ≡ l) (es : sets.pairs ≡ set.from_list pairs)
    (er : ring ≡ new_ring l limit capacity) (known : pending ≡ set.len (pending_of heap.marks)) (each : All (IsPairOf l) pairs) (cover : IsCovered (table_with l refs marked pairs)) where
  pub table_is : table_from heap sets.pairs ≡ table_with l refs marked pairs
  table_is = λ i. table_from (eh i) (es i)

  parts : AreParts heap sets.pairs (new_ring l limit capacity) pending
  unfolding IsDistinct
  parts = record {
    cells = cells;
    counts = length-replicate (card_count l) 0 ∙ ap (λ (h : Cells). card_count h.layout) (sym eh);
    some = some;
    distinct = tt;
    held = λ q. (λ c. absurd (omega (arith, c.1)), λ held. absurd (never_held marked q (subst (λ (h : Cells). get_or h.marks q Clean ≡ Held) eh held)));
    known = known;
    cover = subst IsCovered (sym table_is) cover;
    outside = subst AreOutside (sym table_is) (λ card region r. let c = in_pairs pairs (card, region) r in subst (IsPairOf l) c.2 (each c.0 (card, region) c.1));
  }

  pub adopted_core : IsCore heap sets ring pending
  adopted_core = record { layouts = layouts ∙ ap (λ (h : Cells). h.layout) (sym eh); parts = subst (λ (r : Ring). AreParts heap sets.pairs r pending) (sym er) parts }

-- what is listed of a table's pairs is of the heap, outside its region
pub pairs_of_heap : (t : Table) (items : List (ℕ × ℕ)) → AreOutside t → set.from_list {R = pair_cmp} items ≡ t.recorded → All (IsPairOf t.layout) items
pairs_of_heap t items outside is = All_by_member (IsPairOf t.layout) items (λ x c. outside x.0 x.1 (subst (λ (s : PairSet). set.contains s x ≡ true) is (to_pairs items x c)))
