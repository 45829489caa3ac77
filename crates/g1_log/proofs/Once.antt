-- The rule of the line, parcel by parcel.
use Rattle.std.specs.Prelude.{◌≡◌, ◌≢◌, ◌+◌, ◌<◌, ◌==◌, ◌∷◌, ◌++◌}
use Rattle.g1_log.specs.{ℕ, Bool, List, [], length, get_or, refl, ap, ◌∙◌, sum_by, arith, All, sum_by-cons, nat_tests, Buffer, Parcel, Sent, PassView, one_if, parcel, numbered, put_weight, taken_weight, holding, put_by, IsDelivered, named, senders_numbered, EachOnce, NoOther, NoStranger, EachParcelStandsOnce}
use Rattle.g1_log.proofs.Sums.{at_most_total, all_none, none_too, only}
use Rattle.g1_log.proofs.Parcels.{over, over_none, test_none}
use Rattle.g1_log.proofs.Putting.{one_view, queue_none_over, taken_none_over}

named_other : (i k : ℕ) (test : Buffer → Bool) (q : Parcel) → q.sender ≢ i → named i k test q ≡ 0
named_other i k test q ne = grind (arith, nat_tests)

named_elsewhere : (i k : ℕ) (test : Buffer → Bool) (q : Parcel) → q.number ≢ k → named i k test q ≡ 0
named_elsewhere i k test q ne = grind (arith, nat_tests)

named_here : (i k n : ℕ) (test : Buffer → Bool) (b : Buffer) → k ≡ n → named i k test (parcel i n b) ≡ one_if (test b)
named_here i k n test b e = grind (arith, nat_tests)

numbered_none : (i k n j : ℕ) (test : Buffer → Bool) (bs : List Buffer) → j ≢ i → sum_by (named i k test) (numbered j n bs) ≡ 0
numbered_none i k n j test [] ne = refl
numbered_none i k n j test (b ∷ bs) ne =
    omega (arith, sum_by-cons (named i k test) (parcel j n b) (numbered j (n + 1) bs), named_other i k test (parcel j n b) ne, numbered_none i k (n + 1) j test bs ne)

numbered_later : (i k n : ℕ) (test : Buffer → Bool) (bs : List Buffer) → k < n → sum_by (named i k test) (numbered i n bs) ≡ 0
numbered_later i k n test [] lt = refl
numbered_later i k n test (b ∷ bs) lt =
    omega (arith, sum_by-cons (named i k test) (parcel i n b) (numbered i (n + 1) bs), named_elsewhere i k test (parcel i n b) (λ e. omega arith), numbered_later i k (n + 1) test bs (omega arith))

numbered_once : (i k n : ℕ) (test : Buffer → Bool) (before after : List Buffer) (b : Buffer) → k ≡ n + length before → sum_by (named i k test) (numbered i n (before ++ b ∷ after)) ≡ one_if (test b)
numbered_once i k n test [] after b e =
    omega (arith, sum_by-cons (named i k test) (parcel i n b) (numbered i (n + 1) after), named_here i k n test b (omega arith), numbered_later i k (n + 1) test after (omega arith))
numbered_once i k n test (c ∷ before) after b e =
    omega (
      arith,
      sum_by-cons (named i k test) (parcel i n c) (numbered i (n + 1) (before ++ b ∷ after)),
      named_elsewhere i k test (parcel i n c) (λ d. omega arith),
      numbered_once i k (n + 1) test before after b (omega arith),
    )

view_none : (i k : ℕ) (test : Buffer → Bool) (v : PassView) → holding i v ≡ 0 → put_weight (named i k test) v ≡ 0
view_none i k test v z =
    none_too (λ (s : Sent). one_if (s.number == i)) (λ s. sum_by (named i k test) (numbered s.number 0 s.buffers)) v.sent
    (λ j s at none. numbered_none i k 0 s.number test s.buffers (test_none s.number i none)) (omega arith)

each_once : (items : List Parcel) (views : List PassView) → IsDelivered items views → EachOnce items views
each_once items views h port i v before after b test at is split =
    let k = length before in
    let w = named i k test in
    let g : Sent → ℕ = λ s. sum_by w (numbered s.number 0 s.buffers) in
    let one = one_view items views port i v is h at in
    let total = only (holding i) (put_weight w) views port v (λ j u e z. view_none i k test u z) at (let m = h.numbers i in let p = at_most_total (holding i) views port v at in omega arith) in
    let mine : sum_by g v.sent ≡ 0 + sum_by w (numbered i 0 (put_by v)) = ap (sum_by g) is.sends in
    let place : sum_by w (numbered i 0 (put_by v)) ≡ one_if (test b) = ap (λ l. sum_by w (numbered i 0 l)) split ∙ numbered_once i k 0 test before after b (omega arith) in
    omega (arith, h.balance w)

no_other : (items : List Parcel) (views : List PassView) → IsDelivered items views → NoOther items views
no_other items views h port i v at is =
    let n = length (put_by v) in
    let below : (l : List Parcel) → sum_by (over i n) l ≡ 0 → All (λ (q : Parcel). q.sender ≡ i → q.number < n) l = λ l z k d lt. over_none i n (get_or l k d) (all_none (over i n) l z k d lt) in (
      below items (queue_none_over items views port i v is h at),
      λ other u e k d lt. below (get_or u.taken k d) (taken_none_over items views port i v is h at other u e k d lt),
    )

-- whether a parcel is of sender i
of_sender : ℕ → Parcel → ℕ
of_sender i q = one_if (q.sender == i)

of_sender_none : (i : ℕ) (q : Parcel) → of_sender i q ≡ 0 → q.sender ≢ i
unfolding of_sender
of_sender_none i q z e = grind (arith, nat_tests)

of_sender_other : (i : ℕ) (q : Parcel) → q.sender ≢ i → of_sender i q ≡ 0
unfolding of_sender
of_sender_other i q ne = grind (arith, nat_tests)

numbered_of_other : (i j k : ℕ) (bs : List Buffer) → j ≢ i → sum_by (of_sender i) (numbered j k bs) ≡ 0
numbered_of_other i j k [] ne = refl
numbered_of_other i j k (b ∷ bs) ne =
    omega (arith, sum_by-cons (of_sender i) (parcel j k b) (numbered j (k + 1) bs), of_sender_other i (parcel j k b) ne, numbered_of_other i j (k + 1) bs ne)

view_of_others : (i : ℕ) (v : PassView) → senders_numbered i v ≡ 0 → put_weight (of_sender i) v ≡ 0
view_of_others i v z =
    none_too (λ (s : Sent). one_if (s.number == i)) (λ s. sum_by (of_sender i) (numbered s.number 0 s.buffers)) v.sent
    (λ j s at none. numbered_of_other i s.number 0 s.buffers (test_none s.number i none)) z

no_stranger : (items : List Parcel) (views : List PassView) → IsDelivered items views → NoStranger items views
no_stranger items views h i none =
    let w = of_sender i in
    let put = none_too (senders_numbered i) (put_weight w) views (λ j b at z. view_of_others i b z) none in
    let balance = h.balance w in
    let apart : (l : List Parcel) → sum_by w l ≡ 0 → All (λ (q : Parcel). q.sender ≢ i) l = λ l z k d lt. of_sender_none i (get_or l k d) (all_none w l z k d lt) in (
      apart items (omega arith),
      λ other u e k d lt. apart (get_or u.taken k d) (all_none (sum_by w) u.taken (omega (arith, at_most_total (taken_weight w) views other u e)) k d lt),
    )

pub law : EachParcelStandsOnce
law items views h = (each_once items views h, no_other items views h, no_stranger items views h)
