-- The text of a list of cards, in blocks and from its end.
use Rattle.std.specs.Prelude.{◌≡◌, ◌+◌, ◌<◌, ◌≤◌, ◌^◌, ◌∷◌, ◌++◌}
use Rattle.g1_trace.specs.{ℕ, suc, List, [], take, drop, set, length, get_or, decimal, refl, sym, ◌∙◌, ap, append_assoc, add-one, arith, lit<, drop-cons, drop-set, take-append-drop, list_text}
use Rattle.std.proofs.lemmas.Fmt.{length-decimal-le}

-- the number of a card has at most ten digits
pub ten_digits : (n : ℕ) → n < 2 ^ 32 → length (decimal n) ≤ 10
ten_digits n h = length-decimal-le 10 n (lit< tt) (omega arith) (omega arith)

-- a number of 64 bits at most twenty
pub twenty_digits : (n : ℕ) → n < 2 ^ 64 → length (decimal n) ≤ 20
twenty_digits n h = length-decimal-le 20 n (lit< tt) (omega arith) (omega arith)

pub list_apart : (xs ys : List ℕ) → list_text (xs ++ ys) ≡ list_text xs ++ list_text ys
list_apart [] ys = refl
list_apart (x ∷ xs) ys = ap (λ l. 32 ∷ decimal x ++ l) (list_apart xs ys) ∙ sym (append_assoc (32 ∷ decimal x) (list_text xs) (list_text ys))

-- a list is its block and what is behind it
pub cut_apart : (k : ℕ) (rest block behind : List ℕ) → block ≡ take k rest → behind ≡ drop k rest → rest ≡ block ++ behind
cut_apart k rest block behind e f = sym (take-append-drop k rest) ∙ ap (λ l. l ++ drop k rest) (sym e) ∙ ap (λ l. block ++ l) (sym f)

-- the text of what is done, of the block, and of what is behind it
pub list_parts : (cards done rest block behind : List ℕ) → cards ≡ done ++ rest → rest ≡ block ++ behind → list_text cards ≡ (list_text done ++ list_text block) ++ list_text behind
list_parts cards done rest block behind e f =
    let g : cards ≡ (done ++ block) ++ behind = e ∙ ap (λ l. done ++ l) f ∙ sym (append_assoc done block behind) in
    ap list_text g ∙ list_apart (done ++ block) behind ∙ ap (λ l. l ++ list_text behind) (list_apart done block)

-- one card more in front of the text of a list, with what stands behind it
pub one_in_front : (block cards behind : List ℕ) (at start left i n : ℕ) → start ≡ at + 1 → left ≡ i + 1 → start ≤ length block → i < length cards → n ≡ get_or cards i n
    → drop start block ≡ decimal n ++ list_text (drop left cards) ++ behind → drop at (set block at 32) ≡ list_text (drop i cards) ++ behind
one_in_front block cards behind at start left i n es el hs hi en text =
    let room : at < length block = omega arith in
    let next : suc i ≡ left = sym (el ∙ add-one i) in
    let front : drop i cards ≡ n ∷ drop left cards = drop-cons cards i n hi ∙ ap (λ m. m ∷ drop (suc i) cards) (sym en) ∙ ap (λ k. n ∷ drop k cards) next in
    drop-set block at 32 room ∙ ap (λ l. 32 ∷ l) (ap (λ k. drop k block) (sym es) ∙ text) ∙ sym (ap (λ l. list_text l ++ behind) front)
