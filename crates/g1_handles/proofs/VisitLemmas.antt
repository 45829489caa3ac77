-- What a call on what a handle holds says once its result is known.
use Rattle.std.specs.Prelude.{◌≡◌}
use Rattle.g1_handles.specs.{ap, sym, subst, inl, refl, Option, Some, None, Result, Ok, Err, Reason, Ghosts, Party, OfRole, IsRoleRefused, IsVisit}
use Rattle.g1_handles.specs.declared.code.Reason.TheVariants as refusal

abbrev pub is_ok : {A : Type 0} → Result A Reason → Type 0
is_ok (Ok a) = Unit {0}
is_ok (Err e) = ⊥

abbrev pub err_of : {A : Type 0} → Reason → Result A Reason → Reason
err_of d (Ok a) = d
err_of d (Err e) = e

module _ {V A : Type 0} (Q : V → Result A Reason → V → Type 0) where
  -- a call on what an open handle lends
  pub visited : {old new : Option V} {p q : V} {r : Result A Reason} → old ≡ Some p → new ≡ Some q → Q p r q → IsVisit Q old r new
  visited {old} {new} {p} {q} {r} is later met = subst (λ v. IsVisit Q v r new) (sym is) (subst (λ v. IsVisit Q (Some p) r v) (sym later) met)

  -- what is so at a closed handle, and follows from each call, is so
  visit_by : (P : Option V → Option V → Type 0) (old new : Option V) (r : Result A Reason)
      → (r ≡ Err refusal.NotOpen → P None None) → ((p q : V) → Q p r q → P (Some p) (Some q)) → IsVisit Q old r new → P old new
  visit_by P None new r shut so is = subst (P None) (sym is.0) (shut is.1)
  visit_by P (Some p) None r shut so is = absurd is
  visit_by P (Some p) (Some q) r shut so is = so p q is

  -- what follows from each call that answers is so
  visit_with : (P : Option V → Option V → Type 0) (old new : Option V) (answer : A)
      → ((p q : V) → Q p (Ok answer) q → P (Some p) (Some q)) → IsVisit Q old (Ok answer) new → P old new
  visit_with P old new answer = visit_by P old new (Ok answer) (λ e. absurd cc)

  pub visit_so : (P : Type 0) (old new : Option V) (answer : A)
      → ((p q : V) → Q p (Ok answer) q → P) → IsVisit Q old (Ok answer) new → P
  visit_so P = visit_with (λ _ _. P)

  -- nothing has changed where the call keeps what it is made on
  pub visit_same : (old new : Option V) (r : Result A Reason)
      → ((p q : V) → Q p r q → q ≡ p) → IsVisit Q old r new → new ≡ old
  visit_same old new r so = visit_by (λ o n. n ≡ o) old new r (λ e. refl) (λ p q is. ap (λ x. Some x) (so p q is))

module _ {P : Type 0} {g : Ghosts P} {T A : Type 0} (seen : Party P g → P → T) (Q : Party P g → Result A Reason → Party P g → Type 0) where
  -- the same of the racer, the sweeper or the reader of a handle
  pub role_ok : (R : T → T → Type 0) (old new : Option (Party P g)) (answer : A)
      → ((m n : Party P g) → Q m (Ok answer) n → OfRole seen (Some m) (λ a. OfRole seen (Some n) (λ b. R a b)))
      → IsVisit Q old (Ok answer) new → OfRole seen old (λ a. OfRole seen new (λ b. R a b))
  role_ok R = visit_with Q (λ o n. OfRole seen o (λ a. OfRole seen n (λ b. R a b)))

  pub role_of : (R : T → Type 0) (old new : Option (Party P g)) (answer : A)
      → ((m n : Party P g) → Q m (Ok answer) n → OfRole seen (Some m) R) → IsVisit Q old (Ok answer) new → OfRole seen old R
  role_of R = visit_with Q (λ o _. OfRole seen o R)

  pub role_why : (Why : T → Reason → Type 0) (old new : Option (Party P g)) (r : Reason)
      → ((m n : Party P g) → Q m (Err r) n → IsRoleRefused seen (Some m) Why r) → IsVisit Q old (Err r) new → IsRoleRefused seen old Why r
  role_why Why old new r = visit_by Q (λ o _. IsRoleRefused seen o Why r) old new (Err r) (λ e. inl (ap (err_of r) e, refl))
