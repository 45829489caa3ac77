-- Bits and pairs stay in step.
use Rattle.std.specs.Prelude.{◌≡◌, ◌⊎◌}
use Rattle.g1_race_words.specs.{ℕ, List, [], set, sym, inl, inr, ⊎_elim, some, get_elem?, RaceShape, View, In, Held, pairs_found, held_of, IsNoted, IsPair, HasBit, PairsKept, pair_at, read}
use Rattle.g1_race_words.proofs.Plain.{some_or, in_left, in_right, in_either, put_here, SameHeld, held_on, held_back, held_same}
use Rattle.g1_race_words.proofs.PairBits.{SameBits, bit_as}

pub noted_on : (known : List (ℕ × ℕ)) (views after : List View) → ((x : ℕ × ℕ) → Held pairs_found views x → Held pairs_found after x) → (x : ℕ × ℕ) → IsNoted known views x → IsNoted known after x
noted_on known views after on x (inl i) = inl i
noted_on known views after on x (inr a) = inr (on x a)

-- no bit changes, and no seat's pairs
pub kept_same : (k : RaceShape) (known : List (ℕ × ℕ)) (words new : List ℕ) (views after : List View) → SameBits k words new → SameHeld pairs_found views after → SameHeld held_of views after → PairsKept k known words views → PairsKept k known new after
kept_same k known words new views after bits pairs held h = record {
  has = λ x n. ⊎_elim (λ (b : HasBit k words x). inl (bit_as k words new x bits b)) (λ (a : Held held_of views x). inr ((held x).0 a)) (h.has x (noted_on known after views (λ y. (pairs y).1) x n));
  only = λ x p b. noted_on known views after (λ y. (pairs y).0) x (h.only x p (bit_as k new words x (λ y. sym (bits y)) b));
  read = λ x a. (pairs x).0 (h.read x ((held x).1 a));
}

pub kept_stays : (k : RaceShape) (known : List (ℕ × ℕ)) (words new : List ℕ) (views : List View) (id : ℕ) (v w : View) → get_elem? views id ≡ some v → v.pairs ≡ w.pairs → v.held ≡ w.held → SameBits k words new → PairsKept k known words views → PairsKept k known new (set views id w)
kept_stays k known words new views id v w at pairs held bits = kept_same k known words new views (set views id w) bits (held_same pairs_found views id v w at pairs) (held_same held_of views id v w at held)

-- one seat's view changes, and bits may be set: a pair that is new with it is held, and one that it holds no more has its bit set
pub kept_moves : (k : RaceShape) (known : List (ℕ × ℕ)) (words new : List ℕ) (views : List View) (id : ℕ) (v w : View) → get_elem? views id ≡ some v → ((x : ℕ × ℕ) → In v.pairs x → In w.pairs x) → ((x : ℕ × ℕ) → In w.pairs x → In v.pairs x ⊎ In w.held x)
    → ((x : ℕ × ℕ) → HasBit k words x → HasBit k new x) → ((x : ℕ × ℕ) → IsPair k x → HasBit k new x → HasBit k words x ⊎ In v.held x)
    → ((x : ℕ × ℕ) → In v.held x → HasBit k new x ⊎ In w.held x) → ((x : ℕ × ℕ) → In w.held x → In v.held x ⊎ In w.pairs x) → PairsKept k known words views → PairsKept k known new (set views id w)
kept_moves k known words new views id v w at more found on back lost less h = record {
  has = λ x n. ⊎_elim
      (λ (m : IsNoted known views x). ⊎_elim (λ (b : HasBit k words x). inl (on x b)) (λ (a : Held held_of views x). some_or (λ u. In u.held x) (HasBit k new x) views id v w at (lost x) a) (h.has x m))
      (λ (i : In w.held x). inr (id, w, put_here views id v w at, i))
      (was x n);
  only = λ x p b. noted_on known views (set views id w) wider x (⊎_elim (λ (o : HasBit k words x). h.only x p o) (λ (i : In v.held x). inr (h.read x (id, v, at, i))) (back x p b));
  read = λ x a. ⊎_elim
      (λ (b : Held held_of views x). wider x (h.read x b))
      (λ (i : In w.held x). ⊎_elim (λ (j : In v.held x). wider x (h.read x (id, v, at, j))) (λ (j : In w.pairs x). (id, w, put_here views id v w at, j)) (less x i))
      (held_back held_of views id w x a);
}
  where
    wider : (x : ℕ × ℕ) → Held pairs_found views x → Held pairs_found (set views id w) x
    wider = held_on pairs_found views id v w at more

    was : (x : ℕ × ℕ) → IsNoted known (set views id w) x → IsNoted known views x ⊎ In w.held x
    was x (inl i) = inl (inl i)
    was x (inr a) = ⊎_elim
        (λ (b : Held pairs_found views x). inl (inr b))
        (λ (i : In w.pairs x). ⊎_elim (λ (j : In v.pairs x). inl (inr (id, v, at, j))) (λ (j : In w.held x). inr j) (found x i))
        (held_back pairs_found views id w x a)

-- a sweeper that holds nothing reads a slot, and holds its pair then
pub kept_read : (k : RaceShape) (known : List (ℕ × ℕ)) (words : List ℕ) (views : List View) (id : ℕ) (v : View) (p n : ℕ) → v.held ≡ [] → get_elem? views id ≡ some v → PairsKept k known words views → PairsKept k known words (set views id (read v p n))
kept_read k known words views id v p n free at = let l = pair_at v.shape p n in
    kept_moves k known words words views id v (read v p n) at (λ x i. in_left v.pairs l x i) (λ x i. in_either v.pairs l x i) (λ x b. b) (λ x p b. inl b) (λ x i. absurd (rw free at i)) (λ x i. inr (in_right v.pairs l x i))
