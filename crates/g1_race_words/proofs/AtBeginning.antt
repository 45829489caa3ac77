-- What a race begins with keeps its rule.
use Rattle.std.specs.Prelude.{◌≡◌, ◌+◌, ◌<◌, ◌≤◌, ◌∷◌}
use Rattle.g1_race_words.specs.{ℕ, zero, suc, Bool, true, List, [], get_or, take, refl, sym, ap, ◌∙◌, subst, inl, inr, ⊎_elim, arith, replicate, length-replicate, bit_at, bit_at-zero, some, some-ne-none, some-injective, get_elem?, RaceShape, View, MadeDirty, IsBegun, IsWholeShape, HasBit, bit_word, bit_index, slot_card, mark_word, region_at, In, Held, claims_of, pairs_found, IsMarked, IsBlank, Raced, Going, front, pairs_up_to, null_of, started, beginning, start_of, Numbered, weigh, times, claims_at, cleanings_at, sum_at, stored_sum, overwritten_sum, histories_of, held_of, flagged_of, word_count, frozen_seat}
use Rattle.g1_race_words.proofs.PairBits.{crossing_pair}
use Rattle.g1_race_words.proofs.Places.{at_read, at_take, at_untake, reads_as}
use Rattle.g1_race_words.proofs.Listing.{in_set, set_in}
use Rattle.g1_race_words.proofs.Reading.{null_stays}
use Rattle.g1_race_words.proofs.Plain.{total_none}
use Rattle.g1_race_words.proofs.Balance.{sum_in}
use Rattle.g1_race_words.proofs.Tallies.{none_below}
use Rattle.g1_race_words.proofs.FlagsKept.{flags_fresh}

abbrev pub zeros : ℕ → List ℕ
zeros n = replicate n 0

pub zeros_read : (n i : ℕ) → get_or (zeros n) i 0 ≡ 0
zeros_read zero i = refl
zeros_read (suc n) zero = refl
zeros_read (suc n) (suc i) = zeros_read n i

pub at_zeros : (n i x : ℕ) → get_elem? (zeros n) i ≡ some x → x ≡ 0
at_zeros n i x e = sym (reads_as (zeros n) i x 0 e) ∙ zeros_read n i

pub zero_at : (n i : ℕ) → i < n → get_elem? (zeros n) i ≡ some 0
zero_at n i h = at_read (zeros n) i 0 (omega (arith, length-replicate {A = ℕ} n 0)) ∙ ap some (zeros_read n i)

only : (v w : View) (seat : ℕ) → get_elem? (v ∷ []) seat ≡ some w → v ≡ w
only v w zero e = some-injective v w e
only v w (suc i) e = absurd (some-ne-none w (sym e))

pub never_both : (l : List ℕ) (i : ℕ) → get_elem? l i ≡ some 0 → get_elem? l i ≡ some 1 → ⊥
never_both l i z o = absurd (let e : 0 ≡ 1 = some-injective 0 1 (sym z ∙ o) in omega arith)

-- a word among the first ones is the word
pub same_word : (words : List ℕ) (count i m n : ℕ) → get_elem? (take count words) i ≡ some m → get_elem? words i ≡ some n → m ≡ n
same_word words count i m n was is = some-injective m n (sym (at_untake words count i m was).1 ∙ is)

-- a race begins with any words that one can start with, where no seat answers for anything
pub raced_fresh : (k : RaceShape) (words : List ℕ) (views : List View) → IsBegun (started k words) → ((seat : ℕ) (u : View) → get_elem? views seat ≡ some u → IsBlank u) → weigh views ≡ k.parties → Numbered k views → Raced (beginning (started k words)) words views
raced_fresh k words views h blank all numbered = record {
  sized = h.sized;
  bounded = h.bounded;
  covered = λ p n lt at cr. ⊎_elim (λ (i : HasBit k words (slot_card k p, region_at k n)). inl (set_in k words _ (crossing_pair k p n h.shaped lt (h.bounded p n lt at) cr) i)) (λ (m : IsMarked k words p). inr (inl m)) (h.covered p n lt at cr);
  weighed = (all, λ seat u at none. blank seat u at);
  numbered = numbered;
  stored = λ p n lt at. inr (at_take words (k.slots + k.cards) p n (omega arith) at, λ g b. absurd (none_held histories_of (λ u s. s.1) g b));
  balanced = λ f p first now lt was is.
      let a = total_none (stored_sum f p) views (λ seat u at. ap (sum_in f p) (blank seat u at).1) in
      let b = total_none (overwritten_sum f p) views (λ seat u at. ap (sum_at f p) (blank seat u at).5) in
      let e = ap f (same_word words (k.slots + k.cards) p first now was is) in omega (arith, a, b, e);
  recorded = λ x b. absurd (none_held pairs_found (λ u s. s.4) x b);
  kept = record {
    has = λ x n. ⊎_elim (λ (i : In (pairs_up_to k words k.cards) x). inl (in_set k words x i).1) (λ (b : Held pairs_found views x). absurd (none_held pairs_found (λ u s. s.4) x b)) n;
    only = λ x pair b. inl (set_in k words x pair b);
    read = λ x b. absurd (none_held held_of (λ u s. s.0.2) x b);
  };
  claimed = λ c lt. ⊎_elim
      (λ (m : get_elem? words (mark_word k c) ≡ some 1). inl (m, inr (at_take words (k.slots + k.cards) (mark_word k c) 1 (omega arith) m)))
      (λ (z : get_elem? words (mark_word k c) ≡ some 0). inr (
        z,
        inr (λ (y : MadeDirty k (front k words) views c). ⊎_elim
            (λ (b : Held claims_of views c). none_held claims_of (λ u s. s.2) c b)
            (λ (m : get_elem? (front k words) (mark_word k c) ≡ some 1). never_both words (mark_word k c) z (at_untake words (k.slots + k.cards) (mark_word k c) 1 m).1) y),
      ))
      (h.marks c lt);
  counted = λ c m n lt was is.
      let a = total_none (claims_at c) views (λ seat u at. ap (times c) (blank seat u at).2) in
      let b = total_none (cleanings_at c) views (λ seat u at. ap (times c) (blank seat u at).3) in
      let e = same_word words (k.slots + k.cards) (mark_word k c) m n was is in omega (arith, a, b, e);
  flagged = record { marked = h.flagged; known = λ c b. absurd (none_held flagged_of (λ u s. s.0.3) c b) };
}
  where
    none_held : {A : Type 0} (f : View → List A) → ((u : View) → IsBlank u → f u ≡ []) → (x : A) → Held f views x → ⊥
    none_held {A} f none x b = subst (λ (l : List A). In l x) (none b.1 (blank b.0 b.1 b.2)) b.3

-- and its rule holds, where the seats agree on the beginning
pub going_fresh : (k : RaceShape) (words : List ℕ) (views : List View) (frozen : Bool) → IsBegun (started k words) → Raced (beginning (started k words)) words views
    → ((seat : ℕ) (v : View) → get_elem? views seat ≡ some v → 0 < v.weight → (start_of v ≡ started k words) × (v.frozen ≡ frozen)) → ((seat : ℕ) (v : View) → get_elem? views seat ≡ some v → v.spare ≤ v.weight) → ((seat : ℕ) (u : View) → get_elem? views seat ≡ some u → IsBlank u) → Going k words views
going_fresh k words views frozen begun raced agreed spared blank = record { first = words; frozen = frozen; raced = raced; proper = λ x i. let s = in_set k words x i in begun.proper x s.0 s.1; agreed = agreed; spared = spared; still = λ e. refl; flags = flags_fresh k words views (λ seat u at. (blank seat u at).0.0) }

-- words that begin with all null and all clean, and no bit set

pub no_bit : (k : RaceShape) (words : List ℕ) (x : ℕ × ℕ) → get_or words (bit_word k x) 0 ≡ 0 → HasBit k words x → ⊥
no_bit k words x e b = absurd (let z : bit_at (get_or words (bit_word k x) 0) (bit_index k x) ≡ 0 = ap (λ (n : ℕ). bit_at n (bit_index k x)) e ∙ bit_at-zero (bit_index k x) in omega (arith, z, b))

pub null_begun : (k : RaceShape) → IsWholeShape k → IsBegun (null_of k)
null_begun k shaped = let all = word_count k in record {
  shaped = shaped;
  sized = length-replicate all 0;
  bounded = λ p n lt at. inl (let e = at_zeros all p n at in omega arith);
  marks = λ c lt. inr (zero_at all (mark_word k c) (omega arith));
  covered = λ p n lt at cr. absurd (null_stays k p n (at_zeros all p n at) cr);
  proper = λ x pair b. absurd (no_bit k (zeros all) x (zeros_read all (bit_word k x)) b);
  flagged = λ c lt m. absurd (let e = at_zeros all (mark_word k c) 1 m in omega (arith, e));
}

-- a heap begins at a pause
pub going_first : (k : RaceShape) → IsWholeShape k → Going k (zeros (word_count k)) (frozen_seat (null_of k) k.parties ∷ [])
going_first k shaped = let all = word_count k in let start = frozen_seat (null_of k) k.parties in going_fresh k (zeros all) (start ∷ []) true (null_begun k shaped)
    (raced_fresh k (zeros all) (start ∷ []) (null_begun k shaped) (λ seat u at. subst IsBlank (only start u seat at) ((refl, refl, refl, refl), refl, refl, refl, refl, refl)) (omega arith) (λ m. let e = none_below m in omega arith))
    (λ seat v at heavy. subst (λ (u : View). (start_of u ≡ null_of k) × (u.frozen ≡ true)) (only start v seat at) (refl, refl))
    (λ seat v at. subst (λ (u : View). u.spare ≤ u.weight) (only start v seat at) (omega arith))
    (λ seat u at. subst IsBlank (only start u seat at) ((refl, refl, refl, refl), refl, refl, refl, refl, refl))
