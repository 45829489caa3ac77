-- Parties that leave the boxes that waited for them, the last first.
use Rattle.std.specs.Prelude.{◌≡◌, ◌<◌, ◌-◌, ◌∷◌, ◌++◌, IsPermutation}
use Rattle.g1_handles.specs.{drop, ℕ, suc, List, [], Some, length, map, set, take, slice_index_or, ap, ◌∙◌, sym, subst, arith, get_or-take, get_or-set_same, length-set, take-suc, map-append}
use Rattle.std.proofs.Common.{drop-cons, drop-set-lt}
use Rattle.std.proofs.lemmas.List.{take_all}
use Rattle.std.proofs.lemmas.List.Sorted.{IsPermutation-to_front, IsPermutation-map, IsPermutation-trans, IsPermutation-sym, IsPermutation-append_comm}

-- what is popped stands last in what is left of a list
pub popped : {T : Type 0} (xs ys : List T) (n m : ℕ) (x d : T) → 0 < n → m ≡ n
    → ((k : ℕ) (d : T) → k < n → slice_index_or ys k d ≡ slice_index_or xs k d)
    → Some x ≡ Some (slice_index_or ys (m - 1) d) → x ≡ slice_index_or xs (n - 1) d
popped xs ys n m x d some same rest is =
    let e : x ≡ slice_index_or ys (m - 1) d = cc in
    e ∙ (ap (λ k. slice_index_or ys (k - 1) d) same ∙ rest (n - 1) d (omega arith))

-- the rest stays as it is
pub still : {T : Type 0} (xs ys zs : List T) (n m : ℕ) → 0 < n → m ≡ n
    → ((k : ℕ) (d : T) → k < n → slice_index_or ys k d ≡ slice_index_or xs k d) → zs ≡ take (m - 1) ys
    → (k : ℕ) (d : T) → k < n - 1 → slice_index_or zs k d ≡ slice_index_or xs k d
still {T} xs ys zs n m some same rest is k d below =
    ap (λ (l : List T). slice_index_or l k d) is ∙ (get_or-take (m - 1) ys k d (omega arith) ∙ rest k d (omega arith))

module _ {A : Type 0} (xs : List A) (n : ℕ) (some : 0 < n) where
  from_last : (d : A) → n - 1 < length xs → drop (n - 1) xs ≡ slice_index_or xs (n - 1) d ∷ drop n xs
  from_last d below =
      let next : suc (n - 1) ≡ n = omega (arith, some) in
      subst (λ k. drop (n - 1) xs ≡ slice_index_or xs (n - 1) d ∷ drop k xs) next (drop-cons xs (n - 1) d below)

  -- the one that is set before the later ones
  pub from_set : (h : A) → n - 1 < length xs → drop (n - 1) (set xs (n - 1) h) ≡ h ∷ drop n xs
  from_set h below =
      let next : suc (n - 1) ≡ n = omega (arith, some) in
      subst (λ k. drop (n - 1) (set xs (n - 1) h) ≡ h ∷ drop k xs) next
      (drop-cons (set xs (n - 1) h) (n - 1) h (omega (arith, below, length-set xs (n - 1) h)) ∙ (λ i. get_or-set_same xs (n - 1) h h below i ∷ drop-set-lt (suc (n - 1)) xs (n - 1) h (omega arith) i))

-- what is seen of the handles from an index on is what is seen of a list from there on, also with the one before
pub seen_too : {H V T C : Type 0} (value : H → V) (f : V → C) (g : T → C) (hs : List H) (ys : List T) (n : ℕ) (h : H) (y : T) → 0 < n → n - 1 < length hs → n - 1 < length ys
    → f (value h) ≡ g (slice_index_or ys (n - 1) y) → map f (map value (drop n hs)) ≡ map g (drop n ys)
    → map f (map value (drop (n - 1) (set hs (n - 1) h))) ≡ map g (drop (n - 1) ys)
seen_too value f g hs ys n h y some here there is so =
    ap (λ l. map f (map value l)) (from_set hs n some h here) ∙ ((λ i. is i ∷ so i) ∙ sym (ap (map g) (from_last ys n some y there)))

-- the last one and those before it
pub last_taken : {T : Type 0} (xs : List T) (n : ℕ) (x : T) → 0 < n → n ≡ length xs → x ≡ slice_index_or xs (n - 1) x → IsPermutation xs (x ∷ take (n - 1) xs)
last_taken xs n x some all last =
    let next : n ≡ suc (n - 1) = omega (arith, some) in
    let parts : xs ≡ take (n - 1) xs ++ x ∷ [] =
    sym (take_all n xs (omega (arith, all))) ∙ (ap (λ k. take k xs) next ∙ (take-suc xs (n - 1) x (omega (arith, some, all)) ∙ ap (λ y. take (n - 1) xs ++ y ∷ []) (sym last))) in
    subst (λ l. IsPermutation l (x ∷ take (n - 1) xs)) (sym parts) (IsPermutation-to_front (take (n - 1) xs) x)

-- what is seen of a list that is shared out is seen of its parts
pub seen_of_parts : {T C : Type 0} (see : T → C) (all out rest : List T) → IsPermutation all (out ++ rest) → IsPermutation (map see all) (map see out ++ map see rest)
seen_of_parts see all out rest same = subst (IsPermutation (map see all)) (map-append see out rest) (IsPermutation-map see all (out ++ rest) same)

-- what came back to the others
pub back : {T : Type 0} (all out rest : List T) → IsPermutation (rest ++ out) all → IsPermutation all (out ++ rest)
back all out rest same = IsPermutation-trans all (rest ++ out) (out ++ rest) (IsPermutation-sym (rest ++ out) all same) (IsPermutation-append_comm rest out)
