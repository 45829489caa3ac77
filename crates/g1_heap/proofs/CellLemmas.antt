-- The words and bytes of a heap, and what they stand for.
use Rattle.std.specs.Prelude.{◌≡◌, ◌<◌, ◌≤◌, ◌∷◌}
use Rattle.g1_heap.specs.{inl, inr, ℕ, zero, suc, List, get_or, map, replicate, Option, Some, None, refl, sym, ap, ◌∙◌, subst, IfSome, SomeIff, cases_lt, lt-ltb, le-ltb, All-map, map-set, length-map, Shape, slot_count, card_count, Mark, Clean, AreCells, new_cells, with_ref, with_mark, AreStored, ref_of, mark_of}
use Rattle.std.proofs.Common.{set as list_set}
use Rattle.g1_heap.specs.Cells.{Cells}

map_replicate : {A B : Type 0} (f : A → B) (n : ℕ) (x : A) → map f (replicate n x) ≡ replicate n (f x)
map_replicate f zero x = refl
map_replicate f (suc n) x = ap (λ xs. f x ∷ xs) (map_replicate f n x)

-- a word that is the number of a place refers to it
pub ref_of-place : (l : Shape) (word : ℕ) → word < slot_count l → ref_of l word ≡ Some word
ref_of-place l word h = rw (lt-ltb word (slot_count l) h) refl

-- any other word is null
pub ref_of-null : (l : Shape) (word : ℕ) → slot_count l ≤ word → ref_of l word ≡ None
ref_of-null l word h = rw (le-ltb word (slot_count l) h) refl

-- what a layout answers for a word is what the word stands for
pub ref_of-slot : (l : Shape) (word : ℕ) (target : Option ℕ) → SomeIff target (word < slot_count l) word → target ≡ ref_of l word
ref_of-slot l word None h = elim (cases_lt word (slot_count l)) [
  | inl below ↦ absurd (h below)
  | inr above ↦ sym (ref_of-null l word above)
]
ref_of-slot l word (Some place) h = ap (λ n. Some n) h.1 ∙ sym (ref_of-place l word h.0)

-- the word that is written for a target
pub ref_of-some : (l : Shape) (c : Cells) (target : Option ℕ) (word place : ℕ) → l ≡ c.layout → target ≡ Some place → word ≡ place → IfSome target (λ place. place < slot_count c.layout) → ref_of l word ≡ target
ref_of-some l c target word place same is made within =
    let below : place < slot_count c.layout = subst (λ o. IfSome o (λ place. place < slot_count c.layout)) is within in
    ap (ref_of l) made ∙ ref_of-place l place (subst (λ (l : Shape). place < slot_count l) (sym same) below) ∙ sym is

-- what a word stands for lies within the heap
pub ref_of-within : (l : Shape) (word : ℕ) → IfSome (ref_of l word) (λ place. place < slot_count l)
ref_of-within l word = elim (cases_lt word (slot_count l)) [
  | inl below ↦ subst (λ o. IfSome o (λ place. place < slot_count l)) (sym (ref_of-place l word below)) below
  | inr above ↦ subst (λ o. IfSome o (λ place. place < slot_count l)) (sym (ref_of-null l word above)) tt
]

pub cells_from : (l : Shape) (words bytes : List ℕ) (reads : ℕ) → AreStored l words bytes → AreCells (record { layout = l; refs = map (ref_of l) words; marks = map mark_of bytes; reads = reads })
cells_from l words bytes reads h = record {
  shape = h.shape;
  slots = length-map words (ref_of l) ∙ h.slots;
  places = All-map (λ target. IfSome target (λ place. place < slot_count l)) (ref_of l) words (λ k d lt. ref_of-within l (get_or words k d));
  cards = length-map bytes mark_of ∙ h.cards;
}

-- the parts of a new heap
pub new_parts : (l : Shape) (words bytes : List ℕ) (null : ℕ) → slot_count l ≤ null → words ≡ replicate (slot_count l) null → bytes ≡ replicate (card_count l) 0 → ◌≡◌ {A = Cells} (record { layout = l; refs = map (ref_of l) words; marks = map mark_of bytes; reads = 0 }) (new_cells l)
new_parts l words bytes null above e f =
    let refs : map (ref_of l) words ≡ replicate (slot_count l) None =
    ap (map (ref_of l)) e ∙ map_replicate (ref_of l) (slot_count l) null ∙ ap (replicate (slot_count l)) (ref_of-null l null above) in
    let marks : map mark_of bytes ≡ replicate (card_count l) Clean = ap (map mark_of) f ∙ map_replicate mark_of (card_count l) 0 in
    λ i. record { layout = l; refs = refs i; marks = marks i; reads = 0 }

-- a write of a slot
pub written : (l : Shape) (words bytes : List ℕ) (reads slot at word : ℕ) (target : Option ℕ) (c : Cells) → ◌≡◌ {A = Cells} (record { layout = l; refs = map (ref_of l) words; marks = map mark_of bytes; reads = reads }) c → at ≡ slot → ref_of l word ≡ target → ◌≡◌ {A = Cells} (record { layout = l; refs = map (ref_of l) (list_set words at word); marks = map mark_of bytes; reads = reads }) (with_ref c slot target)
written l words bytes reads slot at word target c is e made =
    let refs : map (ref_of l) (list_set words at word) ≡ list_set (map (ref_of l) words) slot target = map-set (ref_of l) words at word ∙ (λ i. list_set (map (ref_of l) words) (e i) (made i)) in
    (λ i. record { layout = l; refs = refs i; marks = map mark_of bytes; reads = reads }) ∙ ap (λ d. with_ref d slot target) is

-- a write of a byte
pub marked : (l : Shape) (words bytes : List ℕ) (reads card at byte : ℕ) (mark : Mark) (c : Cells) → ◌≡◌ {A = Cells} (record { layout = l; refs = map (ref_of l) words; marks = map mark_of bytes; reads = reads }) c → at ≡ card → mark_of byte ≡ mark → ◌≡◌ {A = Cells} (record { layout = l; refs = map (ref_of l) words; marks = map mark_of (list_set bytes at byte); reads = reads }) (with_mark c card mark)
marked l words bytes reads card at byte mark c is e made =
    let marks : map mark_of (list_set bytes at byte) ≡ list_set (map mark_of bytes) card mark = map-set mark_of bytes at byte ∙ (λ i. list_set (map mark_of bytes) (e i) (made i)) in
    (λ i. record { layout = l; refs = map (ref_of l) words; marks = marks i; reads = reads }) ∙ ap (λ d. with_mark d card mark) is
