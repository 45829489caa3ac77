-- A line's words, byte by byte.
use Rattle.std.specs.Prelude.{◌≡◌, ◌≢◌, ◌+◌, ◌-◌, ◌*◌, ◌^◌, ◌<◌, ◌≤◌, ◌∷◌, ◌++◌}
use Rattle.g1_trace.specs.{inl, inr, true, ℕ, List, [], refl, length, take, drop, get_or, sym, ap, subst, ◌∙◌, arith, add-one, take-suc, drop-length, length-take, ne_eqb, cases_Bool, cases_lt, is_ascii_digit, Ok, words_from, with_word, read_digits, ◌>>=◌}
use Rattle.std.proofs.Common.{drop-cons}
use Rattle.std.proofs.Math.Nat.{pow-suc}

-- a byte of a word
other_byte : (line word : List ℕ) (i : ℕ) → i < length line → get_or line i 0 ≢ 32
    → words_from word (drop i line) ≡ words_from (word ++ get_or line i 0 ∷ []) (drop (i + 1) line)
other_byte line word i lt ne = rw (drop-cons line i 0, ne_eqb _ _ ne, add-one) refl

-- a space
space_byte : (line word : List ℕ) (i : ℕ) → i < length line → get_or line i 0 ≡ 32
    → words_from word (drop i line) ≡ with_word word (words_from [] (drop (i + 1) line))
space_byte line word i lt e = rw (drop-cons line i 0, e, add-one) refl

pub with_word_some : (word : List ℕ) (words : List (List ℕ)) → 0 < length word → with_word word words ≡ word ∷ words
with_word_some [] words h = absurd (omega arith)
with_word_some (b ∷ bytes) words h = refl

-- one more space at the beginning
pub space_more : (line : List ℕ) (i : ℕ) → i < length line → get_or line i 0 ≡ 32 → words_from [] (drop i line) ≡ words_from [] line → words_from [] (drop (i + 1) line) ≡ words_from [] line
space_more line i h e told = sym (space_byte line [] i h e) ∙ told

-- one more byte of the first word
pub word_more : (line : List ℕ) (i : ℕ) → i < length line → get_or line i 0 ≢ 32 → words_from [] line ≡ words_from (take i line) (drop i line)
    → words_from [] line ≡ words_from (take (i + 1) line) (drop (i + 1) line)
word_more line i h ne told =
    let more : take (i + 1) line ≡ take i line ++ get_or line i 0 ∷ [] = rw add-one (take-suc line i 0 h) in
    told ∙ other_byte line (take i line) i h ne ∙ ap (λ w. words_from w (drop (i + 1) line)) (sym more)

-- the first word ends at a space, or with the line
pub word_ends : (line : List ℕ) (i : ℕ) → i < length line → get_or line i 0 ≡ 32 → words_from [] line ≡ words_from (take i line) (drop i line)
    → words_from [] line ≡ with_word (take i line) (words_from [] (drop i line))
word_ends line i h e told = told ∙ space_byte line (take i line) i h e ∙ ap (with_word (take i line)) (sym (space_byte line [] i h e))

pub word_last : (line : List ℕ) → words_from [] line ≡ words_from (take (length line) line) (drop (length line) line)
    → words_from [] line ≡ with_word (take (length line) line) (words_from [] (drop (length line) line))
word_last line told = told ∙ rw drop-length refl

-- a digit behind others
digits_push : (n : ℕ) (word : List ℕ) (b : ℕ) → read_digits n (word ++ b ∷ []) ≡ (read_digits n word >>= λ v. read_digits v (b ∷ []))
digits_push n [] b = refl
digits_push n (x ∷ word) b = elim (cases_Bool (is_ascii_digit x)) [
  | inl digit ↦ rw digit (digits_push (n * 10 + (x - 48)) word b)
  | inr other ↦ rw other refl
]

last_digit : (value b : ℕ) → is_ascii_digit b ≡ true → read_digits value (b ∷ []) ≡ Ok (value * 10 + (b - 48))
last_digit value b digit = rw digit refl

pub digit_more : (word : List ℕ) (i value : ℕ) → i < length word → is_ascii_digit (get_or word i 0) ≡ true → read_digits 0 (take i word) ≡ Ok value
    → read_digits 0 (take (i + 1) word) ≡ Ok (value * 10 + (get_or word i 0 - 48))
digit_more word i value h digit told =
    let more : take (i + 1) word ≡ take i word ++ get_or word i 0 ∷ [] = rw add-one (take-suc word i 0 h) in
    ap (read_digits 0) more ∙ digits_push 0 (take i word) (get_or word i 0)
    ∙ ap (λ r. r >>= λ v. read_digits v (get_or word i 0 ∷ [])) told ∙ last_digit value (get_or word i 0) digit

pub value_more : (i value digit : ℕ) → value < 10 ^ i → digit < 10 → value * 10 + digit < 10 ^ (i + 1)
value_more i value digit small h = rw (add-one, pow-suc 10 i) (omega arith)

-- a first word that ends at a space or with the line
pub counted_word : (line rest word behind : List ℕ) (n count : ℕ) → rest ≡ drop n line → words_from [] (drop n line) ≡ words_from [] line → 0 < count → count ≤ length rest
    → words_from [] rest ≡ words_from (take count rest) (drop count rest) → (count < length rest → get_or rest count 0 ≡ 32) → word ≡ take count rest → behind ≡ drop count rest
    → words_from [] line ≡ word ∷ words_from [] behind
counted_word line rest word behind n count e passed some within told ends first second =
    let long : 0 < length (take count rest) = simp length-take (omega arith) in
    let whole : words_from [] rest ≡ with_word (take count rest) (words_from [] (drop count rest)) = elim (cases_lt count (length rest)) [
      | inl below ↦ word_ends rest count below (ends below) told
      | inr all ↦
          let same : length rest ≡ count = omega arith in
          subst (λ k. words_from [] rest ≡ words_from (take k rest) (drop k rest) → words_from [] rest ≡ with_word (take k rest) (words_from [] (drop k rest))) same (word_last rest) told
    ] in
    rw (first, second) (sym passed ∙ ap (words_from []) (sym e) ∙ whole ∙ with_word_some _ _ long)
