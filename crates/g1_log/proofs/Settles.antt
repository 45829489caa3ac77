-- What the views of all senders and takers, joined, have put and taken.
use Rattle.std.specs.Prelude.{◌≡◌, ◌==◌, ◌+◌, ◌<◌, ◌≤◌, ◌⊎◌, ◌∷◌, ◌++◌}
use Rattle.g1_log.specs.{ℕ, suc, inl, inr, true, false, List, [], length, get_or, map, fold, Option, Some, None, MatchOption, IfSome, refl, ap, ◌∙◌, subst, ⊎_elim, sum_by, arith, All, sum_by-cons, sum_by-append, All-nil, All-cons, All-head, All-tail, Parcel, Sent, PassView, Held, Buffer, Sender, Taker, one_if, numbered, put_weight, taken_weight, put_by, taken_by, Rises, newcomer, joined, ended_view, IsLeft, whole, sender_view, taker_view, sender_rights, AreAll, ahead_and, put_of, taken_of, number_of}

pub sum_by-map : {X Y : Type 0} (f : Y → ℕ) (g : X → Y) (xs : List X) → sum_by f (map g xs) ≡ sum_by (λ x. f (g x)) xs
sum_by-map f g [] = refl
sum_by-map f g (x ∷ xs) = omega (arith, sum_by-cons f (g x) (map g xs), sum_by-cons (λ y. f (g y)) x xs, sum_by-map f g xs)

pub joined_rights : (v : PassView) (us : List PassView) → (fold joined v us).rights ≡ v.rights + sum_by (λ (u : PassView). u.rights) us
joined_rights v [] = omega arith
joined_rights v (u ∷ us) = omega (arith, joined_rights (joined v u) us, sum_by-cons (λ (w : PassView). w.rights) u us)

pub joined_put : (k : Parcel → ℕ) (v : PassView) (us : List PassView) → put_weight k (fold joined v us) ≡ put_weight k v + sum_by (put_weight k) us
joined_put k v [] = omega arith
joined_put k v (u ∷ us) =
    let g : Sent → ℕ = λ s. sum_by k (numbered s.number 0 s.buffers) in
    omega (arith, joined_put k (joined v u) us, sum_by-cons (put_weight k) u us, sum_by-append g v.sent u.sent)

pub joined_taken : (k : Parcel → ℕ) (v : PassView) (us : List PassView) → taken_weight k (fold joined v us) ≡ taken_weight k v + sum_by (taken_weight k) us
joined_taken k v [] = omega arith
joined_taken k v (u ∷ us) =
    omega (arith, joined_taken k (joined v u) us, sum_by-cons (taken_weight k) u us, sum_by-append (sum_by k) v.taken u.taken)

pub joined_numbers : (i : ℕ) (v : PassView) (us : List PassView) → sum_by (λ (s : Sent). one_if (s.number == i)) (fold joined v us).sent ≡ sum_by (λ (s : Sent). one_if (s.number == i)) v.sent + sum_by (λ (u : PassView). sum_by (λ (s : Sent). one_if (s.number == i)) u.sent) us
joined_numbers i v [] = omega arith
joined_numbers i v (u ∷ us) =
    let f : Sent → ℕ = λ s. one_if (s.number == i) in
    omega (arith, joined_numbers i (joined v u) us, sum_by-cons (λ (w : PassView). sum_by f w.sent) u us, sum_by-append f v.sent u.sent)

all_left : {X : Type 0} (P : X → Type 0) (xs ys : List X) → All P (xs ++ ys) → All P xs
all_left P [] ys h = All-nil P
all_left P (x ∷ xs) ys h = All-cons P x xs (All-head P x (xs ++ ys) h) (all_left P xs ys (All-tail P x (xs ++ ys) h))

all_right : {X : Type 0} (P : X → Type 0) (xs ys : List X) → All P (xs ++ ys) → All P ys
all_right P [] ys h = h
all_right P (x ∷ xs) ys h = all_right P xs ys (All-tail P x (xs ++ ys) h)

all_of_map : {X Y : Type 0} (P : Y → Type 0) (f : X → Y) (xs : List X) → All P (map f xs) → All (λ x. P (f x)) xs
all_of_map P f [] h = All-nil (λ x. P (f x))
all_of_map P f (x ∷ xs) h = All-cons (λ y. P (f y)) x xs (All-head P (f x) (map f xs) h) (all_of_map P f xs (All-tail P (f x) (map f xs) h))

-- what holds of each list of the joined view holds of each list of each view
pub joined_lists : (P : List Parcel → Type 0) (v : PassView) (us : List PassView) → All P (fold joined v us).taken → All P v.taken × All (λ (u : PassView). All P u.taken) us
joined_lists P v [] h = (h, All-nil (λ (u : PassView). All P u.taken))
joined_lists P v (u ∷ us) h =
    let r = joined_lists P (joined v u) us h in
    (all_left P v.taken u.taken r.0, All-cons (λ (w : PassView). All P w.taken) u us (all_right P v.taken u.taken r.0) r.1)

pub joined_fresh : (v : PassView) (us : List PassView) → (v ≡ newcomer) ⊎ (v.fresh ≡ false) → (fold joined v us ≡ newcomer) ⊎ ((fold joined v us).fresh ≡ false)
joined_fresh v [] h = h
joined_fresh v (u ∷ us) h = joined_fresh (joined v u) us (inr refl)

-- a view with all rights is no newcomer
pub all_known : (v : PassView) → (v ≡ newcomer) ⊎ (v.fresh ≡ false) → v.rights ≡ whole → v.fresh ≡ false
all_known v h all = ⊎_elim
    (λ (e : v ≡ newcomer). absurd (let r : v.rights ≡ 0 = ap (λ (u : PassView). u.rights) e in let w : whole ≡ 20 = refl in omega arith))
    (λ (e : v.fresh ≡ false). e)
    h

pub sum_by-one : {X : Type 0} (xs : List X) → sum_by (λ x. 1) xs ≡ length xs
sum_by-one [] = refl
sum_by-one (x ∷ xs) = omega (arith, sum_by-cons (λ y. 1) x xs, sum_by-one xs)

-- Sums over lists

sum_by_none : {X : Type 0} (f : X → ℕ) (xs : List X) → All (λ x. f x ≡ 0) xs → sum_by f xs ≡ 0
sum_by_none f [] h = refl
sum_by_none f (x ∷ xs) h = omega (arith, sum_by-cons f x xs, All-head (λ y. f y ≡ 0) x xs h, sum_by_none f xs (All-tail (λ y. f y ≡ 0) x xs h))

sum_by_agree : {X : Type 0} (f g : X → ℕ) (xs : List X) → All (λ x. f x ≡ g x) xs → sum_by f xs ≡ sum_by g xs
sum_by_agree f g [] h = refl
sum_by_agree f g (x ∷ xs) h =
    omega (arith, sum_by-cons f x xs, sum_by-cons g x xs, All-head (λ y. f y ≡ g y) x xs h, sum_by_agree f g xs (All-tail (λ y. f y ≡ g y) x xs h))

length_at_most : {X : Type 0} (f : X → ℕ) (xs : List X) → All (λ x. 0 < f x) xs → length xs ≤ sum_by f xs
length_at_most f [] h = omega arith
length_at_most f (x ∷ xs) h = omega (arith, sum_by-cons f x xs, All-head (λ y. 0 < f y) x xs h, length_at_most f xs (All-tail (λ y. 0 < f y) x xs h))

length-numbered : (i k : ℕ) (bs : List Buffer) → length (numbered i k bs) ≡ length bs
length-numbered i k [] = refl
length-numbered i k (b ∷ bs) = ap suc (length-numbered i (k + 1) bs)

-- All senders and takers of a line, joined

abbrev pub gathered : List Sender → List Taker → PassView
gathered ss ts = fold joined (fold joined newcomer (map sender_view ss)) (map taker_view ts)

module _ (ss : List Sender) (ts : List Taker) (all : AreAll ss ts) where
  pub few : length ss ≤ whole
  few = let m = length_at_most sender_rights ss (λ k d lt. (get_or ss k d).role.right) in omega arith

  pub gathered_known : (fold joined newcomer (map sender_view ss) ≡ newcomer) ⊎ ((fold joined newcomer (map sender_view ss)).fresh ≡ false)
  gathered_known = joined_fresh newcomer (map sender_view ss) (inl refl)

  pub all_rights : (gathered ss ts).rights ≡ whole
  all_rights =
      let f : PassView → ℕ = λ u. u.rights in
      let a = joined_rights newcomer (map sender_view ss) in
      let b = joined_rights (fold joined newcomer (map sender_view ss)) (map taker_view ts) in
      omega (arith, sum_by-map f sender_view ss, sum_by-map f taker_view ts)

  pub opened : (gathered ss ts).fresh ≡ false
  opened = all_known (gathered ss ts) (joined_fresh (fold joined newcomer (map sender_view ss)) (map taker_view ts) gathered_known) all_rights

  gathered_put : (k : Parcel → ℕ) → put_weight k (gathered ss ts) ≡ sum_by (λ s. put_weight k (sender_view s)) ss
  gathered_put k =
      let g : Sent → ℕ = λ s. sum_by k (numbered s.number 0 s.buffers) in
      let none = sum_by_none (λ t. put_weight k (taker_view t)) ts (λ j d lt. ap (sum_by g) (get_or ts j d).role.sends) in
      let a = joined_put k newcomer (map sender_view ss) in
      let b = joined_put k (fold joined newcomer (map sender_view ss)) (map taker_view ts) in
      omega (arith, sum_by-map (put_weight k) sender_view ss, sum_by-map (put_weight k) taker_view ts)

  gathered_taken : (k : Parcel → ℕ) → taken_weight k (gathered ss ts) ≡ sum_by (λ t. taken_weight k (taker_view t)) ts
  gathered_taken k =
      let none = sum_by_none (λ s. taken_weight k (sender_view s)) ss (λ j d lt. ap (sum_by (sum_by k)) (get_or ss j d).role.takes) in
      let a = joined_taken k newcomer (map sender_view ss) in
      let b = joined_taken k (fold joined newcomer (map sender_view ss)) (map taker_view ts) in
      omega (arith, sum_by-map (taken_weight k) sender_view ss, sum_by-map (taken_weight k) taker_view ts)

  pub balance_left : (items : List Parcel) → IsLeft (gathered ss ts) items
      → (k : Parcel → ℕ) → sum_by (λ s. put_weight k (sender_view s)) ss ≡ sum_by (λ t. taken_weight k (taker_view t)) ts + sum_by k items
  balance_left items left k = omega (arith, left.balance k, gathered_put k, gathered_taken k)

  pub order_left : (items : List Parcel) → IsLeft (gathered ss ts) items → Rises items × All (λ t. Rises (taken_of t ++ items)) ts
  order_left items left =
      let P : List Parcel → Type 0 = λ l. Rises (l ++ items) in
      let each = (joined_lists P (fold joined newcomer (map sender_view ss)) (map taker_view ts) left.lists).1 in
      let mapped = all_of_map (λ (u : PassView). All P u.taken) taker_view ts each in
      (left.rises, λ k d lt. let t = get_or ts k d in All-head P (taken_by (taker_view t)) [] (subst (All P) (get_or ts k d).role.takes (mapped k d lt)))

  pub numbers_left : (items : List Parcel) → IsLeft (gathered ss ts) items → (i : ℕ) → sum_by (λ s. one_if (number_of s == i)) ss ≤ 1
  numbers_left items left i =
      let f : Sent → ℕ = λ s. one_if (s.number == i) in
      let F : PassView → ℕ = λ u. sum_by f u.sent in
      let mine = sum_by_agree (λ s. F (sender_view s)) (λ s. one_if (number_of s == i)) ss
      (λ j d lt. ap (sum_by f) (get_or ss j d).role.sends ∙ (let s = get_or ss j d in let z : 0 + one_if (s.number == i) ≡ one_if (s.number == i) = omega arith in z)) in
      let none = sum_by_none (λ t. F (taker_view t)) ts (λ j d lt. ap (sum_by f) (get_or ts j d).role.sends) in
      let a = joined_numbers i newcomer (map sender_view ss) in
      let b = joined_numbers i (fold joined newcomer (map sender_view ss)) (map taker_view ts) in
      omega (arith, left.numbers i, sum_by-map F sender_view ss, sum_by-map F taker_view ts)

  pub count_left : (items : List Parcel) → IsLeft (gathered ss ts) items
      → sum_by (λ s. length (put_of s)) ss ≡ sum_by (λ t. length (taken_of t)) ts + length items
  count_left items left =
      let one : Parcel → ℕ = λ p. 1 in
      let g : Sent → ℕ = λ s. sum_by one (numbered s.number 0 s.buffers) in
      let put = sum_by_agree (λ s. put_weight one (sender_view s)) (λ s. length (put_of s)) ss
      (λ j d lt. ap (sum_by g) (get_or ss j d).role.sends ∙ (let s = get_or ss j d in let bs = put_by (sender_view s) in omega (arith, sum_by-one (numbered s.number 0 bs), length-numbered s.number 0 bs))) in
      let taken = sum_by_agree (λ t. taken_weight one (taker_view t)) (λ t. length (taken_of t)) ts
      (λ j d lt. ap (sum_by (sum_by one)) (get_or ts j d).role.takes ∙ (let t = get_or ts j d in omega (arith, sum_by-one (taken_by (taker_view t))))) in
      omega (arith, balance_left items left one, sum_by-one items)

-- What the first take of a view with all rights tells

abbrev pub Ended : Option Parcel → PassView → PassView → Type 0
Ended o v w = MatchOption o ((w ≡ v) × Held 0 (IsLeft v)) (λ x. (w ≡ ended_view v x w.rest) × IsLeft v (x ∷ w.rest))

none_left : (items : List Parcel) → length items ≡ 0 → items ≡ []
none_left [] e = refl
none_left (x ∷ xs) e = absurd (omega arith)

pub ended_left : (o : Option Parcel) (v w : PassView) → Ended o v w → IsLeft v (ahead_and o w.rest)
ended_left None v w h = let e = h.1 in subst (IsLeft v) (none_left e.0 e.1) e.2
ended_left (Some x) v w h = h.1

pub ended_knows : (o : Option Parcel) (v w : PassView) → v.fresh ≡ false → Ended o v w → IfSome o (λ x. (w.ended ≡ true) × (w.fresh ≡ false))
ended_knows None v w known h = tt
ended_knows (Some x) v w known h = (ap (λ (u : PassView). u.ended) h.0, ap (λ (u : PassView). u.fresh) h.0 ∙ known)
