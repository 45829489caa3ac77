-- What a party's step finds at a slot and at a mark.
use Rattle.std.specs.Prelude.{◌≡◌, ◌<◌, ◌≤◌}
use Rattle.g1_race_words.specs.{ℕ, List, get_or, sym, ◌∙◌, subst, ⊎_elim, arith, some, some-injective, get_elem?, set, refl, RaceShape, View, Start, Going, Raced, beginning, mark_word, Sits, IsFound, HasMade, Makes, May, WordStep, after, found_by, left_by, place_of}
use Rattle.g1_race_words.proofs.Plain.{read_at}
use Rattle.g1_race_words.proofs.Going.{begun}

pub found_word : (k : RaceShape) (id : ℕ) (v : View) (p : ℕ) (words : List ℕ) (views : List View) (h : Going k words views) → get_elem? views id ≡ some v → v.weight ≡ 1 → p < k.slots → IsFound v p (get_or words p 0)
found_word k id v p words views h at one lt = record {
  words = words;
  views = views;
  id = id;
  raced = subst (λ (b : Start). Raced (beginning b) words views) (sym (h.agreed id v at (omega (arith, one))).0) h.raced;
  mine = at;
  there = read_at words p (omega (arith, h.raced.sized));
}

pub found_mark : (k : RaceShape) (c : ℕ) (words : List ℕ) (views : List View) (h : Going k words views) → c < k.cards → get_or words (mark_word k c) 0 ≤ 1
found_mark k c words views h lt = let is = read_at words (mark_word k c) (omega (arith, h.raced.sized, lt)) in
    ⊎_elim (λ x. omega (arith, some-injective _ _ (sym is ∙ x.0))) (λ x. omega (arith, some-injective _ _ (sym is ∙ x.0))) (h.raced.claimed c lt)

-- a party's step, by which the race goes on
pub has_made : (k : RaceShape) (id : ℕ) (v : View) (step : WordStep) (words : List ℕ) (views : List View) (h : Going k words views) → get_elem? views id ≡ some v → Sits k v → May k step v → get_elem? words (place_of k step) ≡ some (found_by step)
    → Raced (begun k words views h) (set words (place_of k step) (left_by k step)) (set views id (after step v)) → HasMade v step
has_made k id v step words views h at sits may found goes = let same = sym (h.agreed id v at (omega (arith, sits.weight))).0 in record {
  seat = id;
  before = record { words = words; views = views };
  next = record { words = set words (place_of k step) (left_by k step); views = set views id (after step v) };
  raced = subst (λ (b : Start). Raced (beginning b) words views) same h.raced;
  mine = at;
  makes = subst (λ (x : RaceShape). Makes x id step (record { words = words; views = views }) (record { words = set words (place_of k step) (left_by k step); views = set views id (after step v) })) (sym sits.shape)
      (record { view = v; mine = at; may = may; found = found; words = refl; views = refl });
  goes_on = subst (λ (b : Start). Raced (beginning b) (set words (place_of k step) (left_by k step)) (set views id (after step v))) same goes;
}
