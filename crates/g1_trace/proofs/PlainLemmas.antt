-- A line that is spelled plainly, word by word.
use Rattle.std.specs.Prelude.{◌≡◌, ◌≢◌, ◌==◌, ◌+◌, ◌-◌, ◌*◌, ◌<◌, ◌≤◌, ◌∷◌, ◌++◌}
use Rattle.g1_trace.specs.{inl, inr, ℕ, List, [], refl, length, take, drop, get_or, suc, add-one, codes, sym, ap, ◌∙◌, arith, rules, nat_lt, append_assoc, append-nil, Option, Some, None, false, Result, Ok, Err, true, is_ascii_digit, bytes_eq, drop-cons, take-append_seam, eq-eqb, ne_eqb, cases_Bool, false≢true, length-append, length-take-le, take-append-drop, take-append-le, Shape, slot_count, Store, Dialect, TraceFault, NoMutator, NoSlot, read_command, read_named, command_words, fit_below, fit_target, read_target, IsNumberBefore, IsTargetBefore, IsLineBefore, words_from, with_word, read_digits, read_number, IsPart, IsSolid}
use Rattle.std.specs.Result.{result_ok}
use Rattle.std.proofs.lemmas.Slice.Eq.{bytes_eq-Decides}
use Rattle.g1_trace.proofs.WordLemmas.{with_word_some}

-- numbers that a test tells apart
ne : (a b : ℕ) → (a == b) ≡ false → a ≢ b
ne a b differ e = false≢true (sym differ ∙ eq-eqb a b e)

-- digits are neither spaces nor line feeds
digits_solid : (word : List ℕ) (n v : ℕ) → read_digits n word ≡ Ok v → IsSolid word
digits_solid [] n v h = tt
digits_solid (b ∷ word) n v h = elim (cases_Bool (is_ascii_digit b)) [
  | inl digit ↦ (
    λ e. false≢true (ap is_ascii_digit (sym e) ∙ digit),
    λ e. false≢true (ap is_ascii_digit (sym e) ∙ digit),
    digits_solid word (n * 10 + (b - 48)) v (rw digit at h),
  )
  | inr other ↦ absurd (let never = rw other at h in cc)
]

solid_part : (word : List ℕ) → IsSolid word → IsPart word
solid_part [] p = tt
solid_part (b ∷ word) p = (p.1, solid_part word p.2)

-- two parts are one
pub part_joined : (xs ys : List ℕ) → IsPart xs → IsPart ys → IsPart (xs ++ ys)
part_joined [] ys p q = q
part_joined (x ∷ xs) ys p q = (p.0, part_joined xs ys p.1 q)

-- a word up to a space, or up to the end
solid_then : (word begun rest : List ℕ) → IsSolid word → words_from begun (word ++ 32 ∷ rest) ≡ with_word (begun ++ word) (words_from [] rest)
solid_then [] begun rest p = ap (λ w. with_word w (words_from [] rest)) (sym (append-nil begun))
solid_then (b ∷ word) begun rest p =
    rw (ne_eqb _ _ p.0) (solid_then word (begun ++ b ∷ []) rest p.2 ∙ ap (λ w. with_word w (words_from [] rest)) (append_assoc begun (b ∷ []) word))

solid_last : (word begun : List ℕ) → IsSolid word → words_from begun word ≡ with_word (begun ++ word) []
solid_last [] begun p = ap (λ w. with_word w []) (sym (append-nil begun))
solid_last (b ∷ word) begun p = rw (ne_eqb _ _ p.0) (solid_last word (begun ++ b ∷ []) p.2 ∙ ap (λ w. with_word w []) (append_assoc begun (b ∷ []) word))

-- three words, with one space between two of them
three_apart : (a b c : List ℕ) → IsSolid a → IsSolid b → IsSolid c → 0 < length a → 0 < length b → 0 < length c → words_from [] (a ++ 32 ∷ b ++ 32 ∷ c) ≡ a ∷ b ∷ c ∷ []
three_apart a b c p q r some_a some_b some_c =
    let last : words_from [] c ≡ c ∷ [] = solid_last c [] r ∙ with_word_some c [] some_c in
    let two : words_from [] (b ++ 32 ∷ c) ≡ b ∷ c ∷ [] = solid_then b [] c q ∙ with_word_some b _ some_b ∙ ap (λ ws. b ∷ ws) last in
    ap (words_from []) (append_assoc a (32 ∷ b) (32 ∷ c)) ∙ solid_then a [] (b ++ 32 ∷ c) p ∙ with_word_some a _ some_a ∙ ap (λ ws. a ∷ ws) two

-- a word that was read has a byte
number_some : (word : List ℕ) (n : ℕ) → read_number word ≡ Ok n → 0 < length word
number_some [] n h = absurd (cc)
number_some (b ∷ word) n h = omega arith

target_some : (word : List ℕ) (t : Option ℕ) → read_target word ≡ Ok t → 0 < length word
target_some [] t h = absurd (cc)
target_some (b ∷ word) t h = omega arith

-- a word of few digits is a number
number_read : (word : List ℕ) (n : ℕ) → 0 < length word → length word ≤ 10 → read_digits 0 word ≡ Ok n → read_number word ≡ Ok n
number_read [] n some few h = absurd (omega arith)
number_read (b ∷ word) n some few h = let within : nat_lt 10 (length (b ∷ word)) ≡ false = search rules in rw within h

-- digits, and the byte behind them
pub number_apart : (bytes window rest : List ℕ) (end count room value : ℕ) → window ≡ take room bytes → room ≤ length bytes → count < room → room ≤ 10 → 0 < count
    → read_digits 0 (take count window) ≡ Ok value → get_or bytes count 0 ≡ end → rest ≡ drop (count + 1) bytes → IsNumberBefore end bytes value rest
number_apart bytes window rest end count room value shown within below few some digits ends behind =
    let within_window : count ≤ length (take room bytes) = omega (arith, length-take-le room bytes within) in
    let front : take count window ≡ take count bytes =
    ap (take count) shown ∙ sym (take-append-le count (take room bytes) (drop room bytes) within_window) ∙ ap (take count) (take-append-drop room bytes) in
    let long : length (take count bytes) ≡ count = length-take-le count bytes (omega arith) in
    let read : read_digits 0 (take count bytes) ≡ Ok value = ap (read_digits 0) (sym front) ∙ digits in
    let next : drop count bytes ≡ end ∷ rest =
    drop-cons bytes count 0 (omega arith) ∙ ap (λ b. b ∷ drop (suc count) bytes) ends ∙ ap (λ k. end ∷ drop k bytes) (sym (add-one count)) ∙ ap (λ l. end ∷ l) (sym behind) in
    record {
      word = take count bytes;
      apart = sym (take-append-drop count bytes) ∙ ap (λ l. take count bytes ++ l) next;
      solid = digits_solid (take count bytes) 0 value read;
      read = number_read (take count bytes) value (omega arith) (omega arith) read;
    }

-- a number or `null` in the last place
pub target_null : (bytes word rest : List ℕ) → bytes_eq word (codes "null\n") ≡ true → bytes ≡ word ++ rest → IsTargetBefore bytes None rest
target_null bytes word rest same apart = record {
  word = codes "null";
  apart = apart ∙ ap (λ w. w ++ rest) ((bytes_eq-Decides word (codes "null\n")).0 same);
  solid = (ne _ _ refl, ne _ _ refl, (ne _ _ refl, ne _ _ refl, (ne _ _ refl, ne _ _ refl, (ne _ _ refl, ne _ _ refl, tt))));
  read = refl;
}

-- what was read is there
pub ok_of : {V : Type 0} (r : Result V TraceFault) (v : V) → Some v ≡ result_ok r → r ≡ Ok v
ok_of (Ok w) v e = cc
ok_of (Err f) v e = cc

-- the command of the words of a store
store_read : (l : Shape) (d : Dialect) (a b c : List ℕ) (x v y w : ℕ) (z u : Option ℕ) → IsSolid a → IsSolid b → IsSolid c → read_number a ≡ Ok x → read_number b ≡ Ok y → read_target c ≡ Ok z
    → fit_below d.mutators NoMutator x ≡ Ok v → fit_below (slot_count l) NoSlot y ≡ Ok w → fit_target l z ≡ Ok u
    → Ok (Some (Store v w u)) ≡ read_command l d (codes "store " ++ (a ++ 32 ∷ b ++ 32 ∷ c))
unfolding read_command read_named
store_read l d a b c x v y w z u p q r read_a read_b read_c fit_a fit_b fit_c =
    let words : words_from [] (codes "store " ++ (a ++ 32 ∷ b ++ 32 ∷ c)) ≡ codes "store" ∷ a ∷ b ∷ c ∷ [] =
    ap (λ ws. codes "store" ∷ ws) (three_apart a b c p q r (number_some a x read_a) (number_some b y read_b) (target_some c z read_c)) in
    sym (ap (command_words l d) words ∙ rw (read_a, read_b, read_c, fit_a, fit_b, fit_c) refl)

-- the line of a store
pub store_line : (l : Shape) (d : Dialect) (bytes name first second third rest : List ℕ) (x v y w : ℕ) (z u : Option ℕ) (count : ℕ) → bytes ≡ name ++ first → bytes_eq name (codes "store ") ≡ true
    → IsNumberBefore 32 first x second → IsNumberBefore 32 second y third → IsTargetBefore third z rest
    → fit_below d.mutators NoMutator x ≡ Ok v → fit_below (slot_count l) NoSlot y ≡ Ok w → fit_target l z ≡ Ok u
    → length bytes ≤ length rest + 64 → count ≡ length bytes - length rest → IsLineBefore l d bytes (Store v w u) count
store_line l d bytes name first second third rest x v y w z u count apart named p q r fit_x fit_y fit_z few counted =
    let is : name ≡ codes "store " = (bytes_eq-Decides name (codes "store ")).0 named in
    let line = codes "store " ++ (p.word ++ 32 ∷ q.word ++ 32 ∷ r.word) in
    let two : first ≡ (p.word ++ 32 ∷ q.word ++ 32 ∷ []) ++ third = p.apart ∙ ap (λ k. p.word ++ 32 ∷ k) q.apart ∙ simp append_assoc in
    let whole : bytes ≡ (line ++ 10 ∷ []) ++ rest = apart ∙ ap (λ k. k ++ first) is ∙ ap (λ k. codes "store " ++ k) (two ∙ ap (λ k. (p.word ++ 32 ∷ q.word ++ 32 ∷ []) ++ k) r.apart) ∙ simp append_assoc in
    let long : length bytes ≡ length (line ++ 10 ∷ []) + length rest = ap length whole ∙ length-append (line ++ 10 ∷ []) rest in
    let size : length (line ++ 10 ∷ []) ≡ length line + 1 = length-append line (10 ∷ []) in
    let all : count ≡ length (line ++ 10 ∷ []) = omega arith in
    let part : IsPart (p.word ++ 32 ∷ q.word ++ 32 ∷ r.word) =
    part_joined (p.word ++ 32 ∷ q.word) (32 ∷ r.word)
    (part_joined p.word (32 ∷ q.word) (solid_part p.word p.solid) (ne _ _ refl, solid_part q.word q.solid)) (ne _ _ refl, solid_part r.word r.solid) in
    record {
      line = line;
      front = ap (λ k. take k bytes) all ∙ ap (take (length (line ++ 10 ∷ []))) whole ∙ take-append_seam (line ++ 10 ∷ []) rest;
      part = (ne _ _ refl, (ne _ _ refl, (ne _ _ refl, (ne _ _ refl, (ne _ _ refl, (ne _ _ refl, part))))));
      short = omega arith;
      asks = store_read l d p.word q.word r.word x v y w z u p.solid q.solid r.solid p.read q.read r.read fit_x fit_y fit_z;
    }
