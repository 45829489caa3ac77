-- What a clause of an exported call says once the call's result is known.
use Rattle.std.specs.Prelude.{◌≡◌, ◌<◌, ◌≤◌, ◌⊎◌}
use Rattle.g1_c.specs.{ℕ, arith, subst, Option, Some, Result, Ok, Err, Pause, Reason, refusal_word, IsHeapRefused, IsRoleRefused, refl, sym, OfRole, SaysNoParty, IsSameHeap, OfPaused, SaysNoHeap, SaysNotPaused, IsCalled, IsVisit, FnOnceReturnsAtMut, RacingHeap, Ghosts, Party, Called, IsMadeOrRefused, ClearReply, cleared_of, Tells, IsTold, MutBor, called_ok, called_why, called_same, kept_same, role_ok, role_of, role_why, visit_same}
use denote.Param.Members.{Once}

module _ {V : Type 0} (most : ℕ) (call : Called V) (Untold Does : Type 0) (Why : Reason → Type 0) where
  -- what a call did is no refusal
  pub is_made : call.word ≤ most → Does → IsMadeOrRefused most call Untold Does Why
  is_made few does = record {
    does = λ _. does;
    untold = λ above. absurd (omega (arith, few, above));
    why = λ above. absurd (omega (arith, few, above));
    same = λ above. absurd (omega (arith, few, above));
  }

  -- and a refusal did nothing
  pub is_refused : (r : Reason) → call.word ≡ refusal_word r → most < call.word → Untold → Why r → call.new ≡ call.old → IsMadeOrRefused most call Untold Does Why
  is_refused r is above untold why same = record {
    does = λ few. absurd (omega (arith, few, above));
    untold = λ _. untold;
    why = λ _. (r, is, why);
    same = λ _. same;
  }

-- a call that is made or refused as its answer says
module _ {V A : Type 0} (call : Called V) (told : A) (Untold : Type 0) (Is : A → Type 0) (Why : Reason → Type 0) where
  makes : (answer : Result A Reason) → Tells answer call.word told Untold → ((a : A) → answer ≡ Ok a → Is a) → ((r : Reason) → answer ≡ Err r → Why r) → ((r : Reason) → answer ≡ Err r → call.new ≡ call.old) → IsMadeOrRefused 0 call Untold (Is told) Why
  makes (Ok a) (done, is) so why same = is_made 0 call Untold (Is told) Why (omega (arith, done)) (subst Is (sym is) (so a refl))
  makes (Err r) (is, more, untold) so why same = is_refused 0 call Untold (Is told) Why r is (omega (arith, more)) untold (why r refl) (same r refl)

  answers : (answer : Result A Reason) → Tells answer call.word told Untold → ((a : A) → answer ≡ Ok a → Is a) → ((r : Reason) → answer ≡ Err r → Why r) → call.new ≡ call.old → IsTold call told Untold Is Why
  answers answer tells so why same = record { answer = makes answer tells so why (λ _ _. same); same = same }

-- what is so of two values is so of what they equal
moved : {V : Type 0} (P : V → V → Type 0) {p q x y : V} → p ≡ x → q ≡ y → P p q → P x y
moved P {p} {q} {x} {y} e f so = subst (λ v. P v y) e (subst (λ v. P p v) f so)

module _ {P : Type 0} {g : Ghosts P} {T : Type 0} (seen : Party P g → P → T) where
  module _ {F A : Type 0} (h : Once F (MutBor (Party P g) × Unit {0}) (Result A Reason × (MutBor (Party P g) × Unit {0}))) (f : F) where
    abbrev Made : Party P g → Result A Reason → Party P g → Type 0
    Made m r n = FnOnceReturnsAtMut h f m r n

    -- a call that answers
    pub role_made : (R : T → T → Type 0) (old new : Option (Party P g)) (answer : A) → IsVisit Made old (Ok answer) new
        → ((m n : MutBor (Party P g)) → h.post f (m, tt) (Ok answer, (n, tt)) → OfRole seen (Some m.now) (λ a. OfRole seen (Some n.now) (λ b. R a b)))
        → OfRole seen old (λ a. OfRole seen new (λ b. R a b))
    role_made R old new answer is so =
        role_ok seen Made R old new answer (λ m n call. moved (λ x y. OfRole seen (Some x) (λ a. OfRole seen (Some y) (λ b. R a b))) call.shows call.leaves (so call.shown call.left call.met)) is

    -- one that is refused
    pub role_refused : (Why : T → Type 0) (old new : Option (Party P g)) (r : Reason) → IsVisit Made old (Err r) new
        → ((m n : MutBor (Party P g)) → h.post f (m, tt) (Err r, (n, tt)) → SaysNoParty (Some m.now) r ⊎ OfRole seen (Some m.now) Why)
        → SaysNoParty old r ⊎ OfRole seen old Why
    role_refused Why old new r is so =
        role_why seen Made (λ a s. Why a) old new r (λ m n call. moved (λ x y. SaysNoParty (Some x) r ⊎ OfRole seen (Some x) Why) call.shows call.leaves (so call.shown call.left call.met)) is

    pub role_seen : (R : T → Type 0) (old new : Option (Party P g)) (answer : A) → IsVisit Made old (Ok answer) new
        → ((m n : MutBor (Party P g)) → h.post f (m, tt) (Ok answer, (n, tt)) → OfRole seen (Some m.now) R) → OfRole seen old R
    role_seen R old new answer is so =
        role_of seen Made R old new answer (λ m n call. moved (λ x y. OfRole seen (Some x) R) call.shows call.leaves (so call.shown call.left call.met)) is

module _ {V F A : Type 0} (h : Once F (MutBor V × Unit {0}) (Result A Reason × (MutBor V × Unit {0}))) (f : F) where
  pub role_same : (old new : Option V) (r : Result A Reason) → IsVisit (λ m r n. FnOnceReturnsAtMut h f m r n) old r new
      → ((m n : MutBor V) → h.post f (m, tt) (r, (n, tt)) → n.now ≡ m.now) → new ≡ old
  role_same old new r is so =
      visit_same (λ m r n. FnOnceReturnsAtMut h f m r n) old new r (λ m n call. moved (λ x y. y ≡ x) call.shows call.leaves (so call.shown call.left call.met)) is

module _ {F A : Type 0} (h : Once F (MutBor Pause × Unit {0}) (Result A Reason × (MutBor Pause × Unit {0}))) (f : F) where
  abbrev Done : Pause → Result A Reason → Pause → Type 0
  Done p r q = FnOnceReturnsAtMut h f p r q

  -- the same of a heap at a pause
  pub heap_made : (R : Pause → Pause → Type 0) (old new : Option RacingHeap) (answer : A) → IsCalled Done old (Ok answer) new
      → ((p q : MutBor Pause) → h.post f (p, tt) (Ok answer, (q, tt)) → R p.now q.now) → IsSameHeap old new R
  heap_made R old new answer is so =
      called_ok Done R old new answer (λ p q call. moved R call.shows call.leaves (so call.shown call.left call.met)) is

  pub heap_refused : (Why : Pause → Type 0) (old new : Option RacingHeap) (r : Reason) → IsCalled Done old (Err r) new
      → ((p q : MutBor Pause) → h.post f (p, tt) (Err r, (q, tt)) → Why p.now) → SaysNoHeap old r ⊎ SaysNotPaused old r ⊎ OfPaused old Why
  heap_refused Why old new r is so =
      called_why Done (λ p s. Why p) old new r (λ p q call. moved (λ x y. Why x) call.shows call.leaves (so call.shown call.left call.met)) is

  pub heap_same : (old new : Option RacingHeap) (r : Result A Reason) → IsCalled Done old r new
      → ((p q : MutBor Pause) → h.post f (p, tt) (r, (q, tt)) → q.now ≡ p.now) → new ≡ old
  heap_same old new r is so =
      called_same Done old new r (λ p q call. moved (λ x y. y ≡ x) call.shows call.leaves (so call.shown call.left call.met)) is

  -- a heap's call that is refused
  pub heap_not : (most : ℕ) (call : Called RacingHeap) (Untold Does : Type 0) (Why : Pause → Reason → Type 0) (r : Reason) → IsCalled Done call.old (Err r) call.new
      → call.word ≡ refusal_word r → most < call.word → Untold
      → ((p q : MutBor Pause) → h.post f (p, tt) (Err r, (q, tt)) → Why p.now r)
      → ((p q : MutBor Pause) → h.post f (p, tt) (Err r, (q, tt)) → q.now ≡ p.now)
      → IsMadeOrRefused most call Untold Does (IsHeapRefused call.old Why)
  heap_not most call Untold Does Why r is word above untold why kept =
      is_refused most call Untold Does (IsHeapRefused call.old Why) r word above untold (heap_refused (λ p. Why p r) call.old call.new r is why) (heap_same call.old call.new (Err r) is kept)

  -- one that tells what it did
  pub heap_tells : (R : A → Pause → Pause → Type 0) (Why : Pause → Reason → Type 0) (call : Called RacingHeap) (answer : Result A Reason) (told : A) (Untold : Type 0)
      → IsCalled Done call.old answer call.new → Tells answer call.word told Untold
      → ((a : A) (p q : MutBor Pause) → h.post f (p, tt) (Ok a, (q, tt)) → R a p.now q.now)
      → ((r : Reason) (p q : MutBor Pause) → h.post f (p, tt) (Err r, (q, tt)) → Why p.now r)
      → ((r : Reason) (p q : MutBor Pause) → h.post f (p, tt) (Err r, (q, tt)) → q.now ≡ p.now)
      → IsMadeOrRefused 0 call Untold (IsSameHeap call.old call.new (R told)) (IsHeapRefused call.old Why)
  heap_tells R Why call answer told Untold is tells so why kept =
      makes call told Untold (λ a. IsSameHeap call.old call.new (R a)) (IsHeapRefused call.old Why) answer tells
      (λ a e. heap_made (R a) call.old call.new a (subst (λ r. IsCalled Done call.old r call.new) e is) (so a))
      (λ r e. heap_refused (λ p. Why p r) call.old call.new r (subst (λ r. IsCalled Done call.old r call.new) e is) (why r))
      (λ r e. heap_same call.old call.new (Err r) (subst (λ r. IsCalled Done call.old r call.new) e is) (kept r))

  -- a question to a heap
  pub heap_answers : (R : A → Pause → Type 0) (Why : Pause → Reason → Type 0) (call : Called RacingHeap) (answer : Result A Reason) (told : A) (Untold : Type 0)
      → IsCalled Done call.old answer call.new → Tells answer call.word told Untold
      → ((a : A) (p q : MutBor Pause) → h.post f (p, tt) (Ok a, (q, tt)) → R a p.now)
      → ((r : Reason) (p q : MutBor Pause) → h.post f (p, tt) (Err r, (q, tt)) → Why p.now r)
      → ((r : Result A Reason) (p q : MutBor Pause) → h.post f (p, tt) (r, (q, tt)) → q.now ≡ p.now)
      → IsTold call told Untold (λ a. IsSameHeap call.old call.new (λ o n. R a o)) (IsHeapRefused call.old Why)
  heap_answers R Why call answer told Untold is tells so why same =
      answers call told Untold (λ a. IsSameHeap call.old call.new (λ o n. R a o)) (IsHeapRefused call.old Why) answer tells
      (λ a e. heap_made (λ o n. R a o) call.old call.new a (subst (λ r. IsCalled Done call.old r call.new) e is) (so a))
      (λ r e. heap_refused (λ p. Why p r) call.old call.new r (subst (λ r. IsCalled Done call.old r call.new) e is) (why r))
      (heap_same call.old call.new answer is (same answer))

module _ {F : Type 0} (h : Once F (MutBor Pause × Unit {0}) (Result (Unit {0}) Reason × (MutBor Pause × Unit {0}))) (f : F) where
  -- one that tells nothing
  pub heap_does : (R : Pause → Pause → Type 0) (Why : Pause → Reason → Type 0) (call : Called RacingHeap) (answer : Result (Unit {0}) Reason)
      → IsCalled (Done h f) call.old answer call.new → Tells answer call.word tt (Unit {0})
      → ((p q : MutBor Pause) → h.post f (p, tt) (Ok tt, (q, tt)) → R p.now q.now)
      → ((r : Reason) (p q : MutBor Pause) → h.post f (p, tt) (Err r, (q, tt)) → Why p.now r)
      → ((r : Reason) (p q : MutBor Pause) → h.post f (p, tt) (Err r, (q, tt)) → q.now ≡ p.now)
      → IsMadeOrRefused 0 call (Unit {0}) (IsSameHeap call.old call.new R) (IsHeapRefused call.old Why)
  heap_does R Why call answer is tells so why kept = heap_tells h f (λ a. R) Why call answer tt (Unit {0}) is tells (λ _. so) why kept

module _ {F : Type 0} (h : Once F (MutBor Pause × Unit {0}) (Result (ℕ × ℕ) Reason × (MutBor Pause × Unit {0}))) (f : F) where
  -- a clear of a heap that got the reply of a word
  pub heap_clears : (R : Pause → ClearReply → Pause → Type 0) (old new : Option RacingHeap) (word number is : ℕ) → IsCalled (Done h f) old (Ok (word, number)) new
      → word ≡ is → ((p q : MutBor Pause) → h.post f (p, tt) (Ok (word, number), (q, tt)) → R p.now (cleared_of word number) q.now)
      → IsSameHeap old new (λ o n. R o (cleared_of is number) n)
  heap_clears R old new word number is call e so =
      subst (λ w. IsSameHeap old new (λ o n. R o (cleared_of w number) n)) e (heap_made h f (λ o n. R o (cleared_of word number) n) old new (word, number) call so)

module _ {P : Type 0} {g : Ghosts P} {T : Type 0} (seen : Party P g → P → T) {F A : Type 0} (h : Once F (MutBor (Party P g) × Unit {0}) (Result A Reason × (MutBor (Party P g) × Unit {0}))) (f : F) where
  -- a party's call that is refused
  pub role_not : (most : ℕ) (call : Called (Party P g)) (Untold Does : Type 0) (Why : T → Reason → Type 0) (r : Reason) → IsVisit (Made seen h f) call.old (Err r) call.new
      → call.word ≡ refusal_word r → most < call.word → Untold
      → ((m n : MutBor (Party P g)) → h.post f (m, tt) (Err r, (n, tt)) → SaysNoParty (Some m.now) r ⊎ OfRole seen (Some m.now) (λ s. Why s r))
      → ((m n : MutBor (Party P g)) → h.post f (m, tt) (Err r, (n, tt)) → n.now ≡ m.now)
      → IsMadeOrRefused most call Untold Does (IsRoleRefused seen call.old Why)
  role_not most call Untold Does Why r is word above untold why kept =
      is_refused most call Untold Does (IsRoleRefused seen call.old Why) r word above untold (role_refused seen h f (λ s. Why s r) call.old call.new r is why) (role_same h f call.old call.new (Err r) is kept)

  -- a reader's question
  pub role_answers : (R : A → T → Type 0) (Why : T → Reason → Type 0) (call : Called (Party P g)) (answer : Result A Reason) (told : A) (Untold : Type 0)
      → IsVisit (Made seen h f) call.old answer call.new → Tells answer call.word told Untold
      → ((a : A) (m n : MutBor (Party P g)) → h.post f (m, tt) (Ok a, (n, tt)) → OfRole seen (Some m.now) (λ s. R a s))
      → ((r : Reason) (m n : MutBor (Party P g)) → h.post f (m, tt) (Err r, (n, tt)) → SaysNoParty (Some m.now) r ⊎ OfRole seen (Some m.now) (λ s. Why s r))
      → ((r : Result A Reason) (m n : MutBor (Party P g)) → h.post f (m, tt) (r, (n, tt)) → n.now ≡ m.now)
      → IsTold call told Untold (λ a. OfRole seen call.old (λ s. R a s)) (IsRoleRefused seen call.old Why)
  role_answers R Why call answer told Untold is tells so why same =
      answers call told Untold (λ a. OfRole seen call.old (λ s. R a s)) (IsRoleRefused seen call.old Why) answer tells
      (λ a e. role_seen seen h f (λ s. R a s) call.old call.new a (subst (λ r. IsVisit (Made seen h f) call.old r call.new) e is) (so a))
      (λ r e. role_refused seen h f (λ s. Why s r) call.old call.new r (subst (λ r. IsVisit (Made seen h f) call.old r call.new) e is) (why r))
      (role_same h f call.old call.new answer is (same answer))

-- what the exports of a room cite
pub ruleset heap_calls = (heap_made, called_same, heap_does, heap_answers, heap_not, is_made, kept_same)

pub ruleset role_calls = (role_made, role_answers, role_not, is_made)
