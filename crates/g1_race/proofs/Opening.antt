-- A race over nulls begins with the opening table.
use Rattle.std.specs.Prelude.{◌≡◌, ◌+◌, ◌-◌, ◌∷◌, ◌++◌}
use Rattle.g1_race.specs.{false, ℕ, zero, suc, arith, eqb, List, [], map, Option, None, some, get_elem?, refl, sym, ap, ◌∙◌, replicate, slot_count, card_count, opening, pending_of, marks_for, word_of, target_of_word, Pause, start_at, HasWordsOf, ended, table_of, RaceShape, Start, beginning, bit_word, front, null_of, pairs_of_card, pairs_up_to, word_count, shape_of, null_begun, pair_clear, zeros, zero_at, no_bit, zeros_read}
use Rattle.std.proofs.lemmas.List.{drop-replicate, get_or-replicate, take-replicate}
use Rattle.std.specs.FinSet as set
use Rattle.g1_layout.specs.Shape as layout
use Rattle.g1_core.proofs.OpeningLemmas.{none_pending}
use Rattle.g1_core.specs.Adoption.{mark_for}

map_replicate : {A B : Type 0} (f : A → B) (n : ℕ) (a : A) → map f (replicate n a) ≡ replicate n (f a)
map_replicate f zero a = refl
map_replicate f (suc n) a = ap (λ l. f a ∷ l) (map_replicate f n a)

no_pairs_of : (k : RaceShape) (n c r : ℕ) → pairs_of_card k (zeros n) c r ≡ []
no_pairs_of k n c zero = refl
no_pairs_of k n c (suc r) = λ i. no_pairs_of k n c r i ++ pair_clear k (zeros n) (c, r) (no_bit k (zeros n) (c, r) (zeros_read n (bit_word k (c, r)))) i

no_pairs : (k : RaceShape) (n c : ℕ) → pairs_up_to k (zeros n) c ≡ []
no_pairs k n zero = refl
no_pairs k n (suc c) = λ i. no_pairs k n c i ++ no_pairs_of k n c k.regions i

table_of_zeros : (l : layout.Shape) → table_of (record { layout = l; words = zeros (slot_count l + card_count l); pairs = [] }) ≡ opening l
table_of_zeros l =
    let slots = slot_count l in
    let cards = card_count l in
    let refs = ap (map target_of_word) (take-replicate slots (slots + cards) 0 (omega arith)) ∙ map_replicate target_of_word slots 0 in
    let marks = ap (λ (ws : List ℕ). marks_for (map (λ x. eqb x 1) ws)) (drop-replicate slots (slots + cards) 0 ∙ ap zeros (let e : slots + cards - slots ≡ cards = omega arith in e)) ∙ (ap marks_for (map_replicate (λ x. eqb x 1) cards 0) ∙ map_replicate mark_for cards false) in
    λ i. record { layout = l; refs = refs i; pending = (ap pending_of marks ∙ none_pending cards) i; recorded = set.empty }

pub opening_table : (l : layout.Shape) (k : RaceShape) (m : ℕ) → k ≡ shape_of l m → table_of (ended l k (zeros (word_count k))) ≡ opening l
opening_table l k m laid =
    let count : k.slots + k.cards ≡ slot_count l + card_count l = ap (λ (s : RaceShape). s.slots + s.cards) laid in
    let words : front k (zeros (word_count k)) ≡ zeros (slot_count l + card_count l) = take-replicate (k.slots + k.cards) (word_count k) 0 (omega arith) ∙ ap zeros count in
    (λ i. table_of (record { layout = l; words = words i; pairs = no_pairs k (word_count k) k.cards i })) ∙ table_of_zeros l

-- what a race over nulls begins with
pub begins_null : (l : layout.Shape) (m : ℕ) → beginning (null_of (shape_of l m)) ≡ null_begun l m
begins_null l m =
    let k = shape_of l m in
    λ i. record { shape = k; words = take-replicate (k.slots + k.cards) (word_count k) 0 (omega arith) i; pairs = no_pairs k (word_count k) k.cards i }

-- a heap of nulls holds no data
pub opening_words : (l : layout.Shape) (h : Pause) (m : ℕ) → start_at h ≡ null_of h.shape → h.shape ≡ shape_of l m → HasWordsOf (opening l) h.words
opening_words l h m null laid p lt =
    let slots : h.shape.slots ≡ slot_count l = ap (λ (k : RaceShape). k.slots) laid in
    ap (λ (b : Start). get_elem? b.words p) null ∙ (zero_at (word_count h.shape) p (omega (arith, lt, slots)) ∙ ap (λ (o : Option ℕ). some (word_of o)) (sym (get_or-replicate (slot_count l) p None None lt)))
