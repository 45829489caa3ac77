-- Parcels whose numbers rise, and those of a sender.
use Rattle.std.specs.Prelude.{◌≡◌, ◌≢◌, ◌+◌, ◌<◌, ◌≤◌, ◌&&◌, ◌==◌, ◌∷◌, ◌++◌}
use Rattle.g1_log.specs.{ℕ, suc, nat_lt, not, List, [], length, sym, refl, ap, ◌∙◌, sum_by, arith, All, sum_by-cons, All-nil, All-cons, All-head, All-tail, All-push, nat_tests, Buffer, Parcel, Sent, PassView, one_if, parcel, numbered, put_weight, holding, Rises}
use Rattle.g1_log.proofs.Sums.{none_too}

-- Parcels whose numbers rise

pub rises_push : (l : List Parcel) (x : Parcel) → Rises l → All (λ q. q.sender ≡ x.sender → q.number < x.number) l → Rises (l ++ x ∷ [])
rises_push [] x r b = (All-nil (λ (q : Parcel). q.sender ≡ x.sender → x.number < q.number), tt)
rises_push (p ∷ ps) x r b =
    let B : Parcel → Type 0 = λ q. q.sender ≡ x.sender → q.number < x.number in
    (All-push (λ (q : Parcel). q.sender ≡ p.sender → p.number < q.number) ps x r.0 (λ e. All-head B p ps b (sym e)), rises_push ps x r.1 (All-tail B p ps b))

all_without : (P : Parcel → Type 0) (l m : List Parcel) (x : Parcel) → All P (l ++ x ∷ m) → All P (l ++ m)
all_without P [] m x h = All-tail P x m h
all_without P (p ∷ ps) m x h = All-cons P p (ps ++ m) (All-head P p (ps ++ x ∷ m) h) (all_without P ps m x (All-tail P p (ps ++ x ∷ m) h))

pub rises_without : (l m : List Parcel) (x : Parcel) → Rises (l ++ x ∷ m) → Rises (l ++ m)
rises_without [] m x r = r.1
rises_without (p ∷ ps) m x r = (all_without (λ q. q.sender ≡ p.sender → p.number < q.number) ps m x r.0, rises_without ps m x r.1)

-- The parcels of a sender

pub numbered_push : (i k : ℕ) (bs : List Buffer) (b : Buffer) → numbered i k (bs ++ b ∷ []) ≡ numbered i k bs ++ parcel i (k + length bs) b ∷ []
numbered_push i k [] b = ap (λ n. parcel i n b ∷ []) (omega arith)
numbered_push i k (c ∷ cs) b =
    let e : (k + 1) + length cs ≡ k + suc (length cs) = omega arith in
    ap (λ l. parcel i k c ∷ l) (numbered_push i (k + 1) cs b ∙ ap (λ n. numbered i (k + 1) cs ++ parcel i n b ∷ []) e)

-- whether a parcel is of sender i and has number n or a later one
pub over : ℕ → ℕ → Parcel → ℕ
over i n q = one_if ((q.sender == i) && not (nat_lt q.number n))

pub over_none : (i n : ℕ) (q : Parcel) → over i n q ≡ 0 → q.sender ≡ i → q.number < n
unfolding over
over_none i n q z e = grind (arith, nat_tests)

over_below : (i n : ℕ) (q : Parcel) → q.number < n → over i n q ≡ 0
unfolding over
over_below i n q lt = grind (arith, nat_tests)

over_other : (i n : ℕ) (q : Parcel) → q.sender ≢ i → over i n q ≡ 0
unfolding over
over_other i n q ne = grind (arith, nat_tests)

pub numbered_below : (i n k : ℕ) (bs : List Buffer) → k + length bs ≤ n → sum_by (over i n) (numbered i k bs) ≡ 0
numbered_below i n k [] h = refl
numbered_below i n k (b ∷ bs) h =
    omega (arith, sum_by-cons (over i n) (parcel i k b) (numbered i (k + 1) bs), over_below i n (parcel i k b) (omega arith), numbered_below i n (k + 1) bs (omega arith))

numbered_other : (i n j k : ℕ) (bs : List Buffer) → j ≢ i → sum_by (over i n) (numbered j k bs) ≡ 0
numbered_other i n j k [] ne = refl
numbered_other i n j k (b ∷ bs) ne =
    omega (arith, sum_by-cons (over i n) (parcel j k b) (numbered j (k + 1) bs), over_other i n (parcel j k b) ne, numbered_other i n j (k + 1) bs ne)

pub test_none : (s i : ℕ) → one_if (s == i) ≡ 0 → s ≢ i
test_none s i z e = grind (arith, nat_tests)

pub view_other : (i n : ℕ) (v : PassView) → holding i v ≡ 0 → put_weight (over i n) v ≡ 0
view_other i n v z =
    none_too (λ (s : Sent). one_if (s.number == i)) (λ s. sum_by (over i n) (numbered s.number 0 s.buffers)) v.sent
    (λ j s at none. numbered_other i n s.number 0 s.buffers (test_none s.number i none)) (omega arith)
