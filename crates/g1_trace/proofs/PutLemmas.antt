-- Writes that follow each other, as one.
use Rattle.std.specs.Prelude.{◌≡◌, ◌++◌, ◌-◌}
use Rattle.g1_trace.specs.{ℕ, List, [], length, take, drop, subst, Option, None, Some, append_assoc, append-nil, refl, sym, ◌∙◌, ap, Appends-nil, Appends-trans, take-length, take-append-drop, length-drop, Result, Ok, Err, IsErr, Appends, Keeps, AppendsFront, Puts}

pub keeps_appends : (a b : Option (List ℕ)) → Keeps a b → Appends a b []
keeps_appends None b p = tt
keeps_appends (Some xs) None p = absurd p
keeps_appends (Some xs) (Some ys) p = p ∙ sym (append-nil xs)

-- a beginning of a text is one of a longer one
pub front_more : (a b : Option (List ℕ)) (x y : List ℕ) → AppendsFront a b x → AppendsFront a b (x ++ y)
front_more a b x y p = (p.0, p.1 ++ y, p.2, ap (λ l. l ++ y) p.3 ∙ append_assoc p.0 p.1 y)

-- a beginning behind a whole text
pub front_then : (a b c : Option (List ℕ)) (x y : List ℕ) → Appends a b x → AppendsFront b c y → AppendsFront a c (x ++ y)
front_then a b c x y p q = (x ++ q.0, q.1, Appends-trans a b c x q.0 p q.2, ap (λ l. x ++ l) q.3 ∙ sym (append_assoc x q.0 q.1))

-- a put that failed
pub puts_failed : {V E : Type 0} (a b : Option (List ℕ)) (r : Result V E) (text : List ℕ) → IsErr r → AppendsFront a b text → Puts a b r text
puts_failed a b (Ok v) text e p = cc
puts_failed a b (Err v) text e p = p

-- nothing was put
pub puts_none : {V E : Type 0} (a : Option (List ℕ)) (r : Result V E) → Puts a a r []
puts_none a (Ok v) = Appends-nil a
puts_none a (Err v) = ([], [], Appends-nil a, refl)

-- a put behind a whole text
pub puts_then : {V E : Type 0} (a b c : Option (List ℕ)) (r : Result V E) (x y : List ℕ) → Appends a b x → Puts b c r y → Puts a c r (x ++ y)
puts_then a b c (Ok v) x y p q = Appends-trans a b c x y p q
puts_then a b c (Err e) x y p q = front_then a b c x y p q

-- a line in three parts: its first put failed, its second, or it ends with its third
pub first_of_three : (a b : Option (List ℕ)) (x y z : List ℕ) → AppendsFront a b x → AppendsFront a b (x ++ y ++ z)
first_of_three a b x y z p = front_more a b (x ++ y) z (front_more a b x y p)

pub second_of_three : (a b c : Option (List ℕ)) (x y z : List ℕ) → Appends a b x → AppendsFront b c y → AppendsFront a c (x ++ y ++ z)
second_of_three a b c x y z p q = front_more a c (x ++ y) z (front_then a b c x y p q)

pub three_parts : {V E : Type 0} (a b c d : Option (List ℕ)) (r : Result V E) (x y z : List ℕ) → Appends a b x → Appends b c y → Puts c d r z → Puts a d r (x ++ y ++ z)
three_parts a b c d r x y z p q t = puts_then a c d r (x ++ y) z (Appends-trans a b c x y p q) t

-- the text that stands in a block from a place on
pub puts_behind : {V E : Type 0} (a b : Option (List ℕ)) (r : Result V E) (block text : List ℕ) (start n : ℕ) → length block ≡ n → drop start block ≡ text
    → Puts a b r (take (n - start) (drop start block)) → Puts a b r text
puts_behind a b r block text start n e is h =
    let long : length (drop start block) ≡ n - start = length-drop start block ∙ ap (λ k. k - start) e in
    subst (Puts a b r) (ap (λ k. take k (drop start block)) (sym long) ∙ take-length (drop start block) ∙ is) h

-- what was written so far, and what is left
pub cut_at : (n : ℕ) (all done left : List ℕ) → all ≡ done ++ left → all ≡ (done ++ take n left) ++ drop n left
cut_at n all done left e = e ∙ ap (λ l. done ++ l) (sym (take-append-drop n left)) ∙ sym (append_assoc done (take n left) (drop n left))
