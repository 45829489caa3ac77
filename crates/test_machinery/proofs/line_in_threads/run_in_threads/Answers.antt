use Rattle.std.proofs.Common.{◌≡◌, ℕ, ◌+◌, List, [], ◌∷◌, length, get_or, sum_by, ap, rules, arith}
use Rattle.std.specs.List.{remove}
use Rattle.std.proofs.lemmas.Result.{IfOk-at_ok}
use Rattle.g1_log.specs.Ends.{sender_rights, taker_rights}
use Rattle.test_machinery.proofs.line_in_threads.run_in_threads.Goals as goal

-- the sum over a list of two elements
two : {X : Type 0} (f : X → ℕ) (xs : List X) → length xs ≡ 2 → (a b : X) → b ≡ get_or xs 1 b → a ≡ get_or (remove xs 1) 0 a → sum_by f xs ≡ f a + f b
two f [] n a b p q = absurd (omega arith)
two f (x ∷ []) n a b p q = absurd (omega arith)
two f (x ∷ y ∷ []) n a b p q = let u : f b ≡ f y = ap f p in let v : f a ≡ f x = ap f q in omega arith
two f (x ∷ y ∷ z ∷ zs) n a b p q = absurd (omega arith)

pub settle-settled-requires-clause-all : goal.settle-settled-requires-clause-all
settle-settled-requires-clause-all g c =
    let all = IfOk-at_ok _ c.expect-line.ensures c.new.ensures.all in
    let senders = IfOk-at_ok _ c.expect-line.ensures c.new.ensures.senders in
    let takers = IfOk-at_ok _ c.expect-line.ensures c.new.ensures.takers in
    let s = two sender_rights _ senders.0 c.remove-first.result c.remove-second.result c.remove-second.ensures.value (search rules) in
    let t = two taker_rights _ takers.0 c.remove-one.result c.remove-other.result c.remove-other.ensures.value (search rules) in
    let a : sender_rights c.join-puts.result.0.0.0 ≡ sender_rights c.remove-first.result = search rules in
    let b : sender_rights c.join-puts.result.0.1.0 ≡ sender_rights c.remove-second.result = search rules in
    let d : taker_rights c.join-puts.result.1.0.0 ≡ taker_rights c.remove-one.result = search rules in
    let e : taker_rights c.join-puts.result.1.1.0 ≡ taker_rights c.remove-other.result = search rules in
    let v = ap (sum_by sender_rights) (IfOk-at_ok _ c.expect-senders.ensures c.vec.ensures.items) in
    let w = ap (sum_by taker_rights) (IfOk-at_ok _ c.expect-takers.ensures c.vec-2.ensures.items) in
    omega arith
