-- The words of a card, and what they refer to.
use Rattle.std.specs.Prelude.{◌≡◌, ◌<◌, ◌≤◌, ◌+◌, ◌-◌}
use Rattle.g1_heap.specs.{ℕ, List, length, get_or, take, drop, map, None, sym, ap, ◌∙◌, arith, get_or-take, get_or-drop, get_or-map, length-take, length-drop, Shape, ref_of}

abbrev pub row_of : List ℕ → ℕ → ℕ → List ℕ
row_of words first n = take (first + n - first) (drop first words)

module _ (words : List ℕ) (first n : ℕ) (room : first + n ≤ length words) where
  pub row_length : length (row_of words first n) ≡ n
  row_length = omega (arith, length-take (first + n - first) (drop first words), length-drop first words)

  pub row_at : (l : Shape) (k : ℕ) → k < n → ref_of l (get_or (row_of words first n) k 0) ≡ get_or (map (ref_of l) words) (first + k) None
  row_at l k lt =
      let few : k < first + n - first = omega arith in
      let inside : first + k < length words = omega arith in
      ap (ref_of l) (get_or-take (first + n - first) (drop first words) k 0 few ∙ get_or-drop first words k 0) ∙ sym (get_or-map (ref_of l) words (first + k) 0 None inside)

-- a word of a group in which every word is the same
pub word_of_group : (row : List ℕ) (at k word : ℕ) → ((j : ℕ) → j < 8 → get_or (take (at + 8 - at) (drop at row)) j 0 ≡ word) → at ≤ k → k < at + 8 → get_or row k 0 ≡ word
word_of_group row at k word same from lt =
    let j : k - at < 8 = omega arith in
    let is : at + (k - at) ≡ k = omega arith in
    ap (λ n. get_or row n 0) (sym is) ∙ sym (get_or-take (at + 8 - at) (drop at row) (k - at) 0 (omega arith) ∙ get_or-drop at row (k - at) 0) ∙ same (k - at) j
