-- What the steps have in common: each reference between regions is answered for anew, or was answered for, and is still.
use Rattle.std.specs.Prelude.{◌≡◌, ◌⊎◌, ◌<◌}
use Rattle.g1_race_words.specs.{ℕ, List, set, true, inl, inr, ⊎_elim, some, get_elem?, RaceShape, View, slot_card, region_at, crosses, In, AnswersFor, IsMarked, Someone, Covered}
use Rattle.g1_race_words.proofs.Plain.{put_here, some_or}

abbrev pub Answered : RaceShape → List ℕ → List View → ℕ → ℕ → Type 0
Answered k words views p n = IsMarked k words p ⊎ Someone k views p n

abbrev pub HandsOn : RaceShape → List ℕ → List View → List ℕ → List View → ℕ → ℕ → Type 0
HandsOn k words views new after p n = (get_elem? words p ≡ some n) × (IsMarked k words p → Answered k new after p n) × (Someone k views p n → Answered k new after p n)

pub covered_moves : (k : RaceShape) (known : List (ℕ × ℕ)) (words new : List ℕ) (views after : List View) → Covered k known words views
    → ((p n : ℕ) → p < k.slots → get_elem? new p ≡ some n → crosses k p n ≡ true → Answered k new after p n ⊎ HandsOn k words views new after p n)
    → Covered k known new after
covered_moves k known words new views after h step p n lt at cr = ⊎_elim
    (λ (x : Answered k new after p n). inr x)
    (λ (x : HandsOn k words views new after p n). ⊎_elim (λ (i : In known (slot_card k p, region_at k n)). inl i)
    (λ (y : IsMarked k words p ⊎ Someone k views p n). inr (⊎_elim x.1 x.2 y))
    (h p n lt x.0 cr))
    (step p n lt at cr)

-- one seat's view changes from v to w
abbrev pub Passes : RaceShape → List ℕ → View → View → ℕ → ℕ → Type 0
Passes k new v w p n = AnswersFor k v p n → IsMarked k new p ⊎ AnswersFor k w p n

pub by_seat : (k : RaceShape) (new : List ℕ) (views : List View) (id : ℕ) (v w : View) (p n : ℕ) → get_elem? views id ≡ some v → IsMarked k new p ⊎ AnswersFor k w p n → Answered k new (set views id w) p n
by_seat k new views id v w p n at (inl m) = inl m
by_seat k new views id v w p n at (inr a) = inr (id, w, put_here views id v w at, a)

pub others_pass : (k : RaceShape) (new : List ℕ) (views : List View) (id : ℕ) (v w : View) (p n : ℕ) → get_elem? views id ≡ some v → Passes k new v w p n
    → Someone k views p n → Answered k new (set views id w) p n
others_pass k new views id v w p n at = some_or (λ u. AnswersFor k u p n) (IsMarked k new p) views id v w at
