-- How many stores there were, and drains of the first regions, one behind the other.
use Rattle.std.specs.Prelude.{◌≡◌, ◌+◌, ◌∷◌, ◌++◌}
use Rattle.g1_replay.specs.{◌∙◌, ℕ, suc, List, [], refl, sym, subst, append-nil, append_assoc, arith, Ok, Err, Result, Drain, Command, Call, puts_then, Stop, BookFull, Prints, drains, HasDrained, Draining, Does, At, at, Option, deeds_of, ap, IsUndone, more_may_come, written_by, stores_text}
use Rattle.g1_replay.proofs.EndLemmas.{written_as}

module _ {S : Type 0} (d : Draining S) (stores : ℕ) where
  -- no drain was made
  pub drained_none : (regions : ℕ) (s : S) (out out' : Option (List ℕ)) (r : Result (Unit {0}) Stop) → (r ≡ Ok tt → 0 ≡ regions) → (r ≡ Err BookFull → ⊥) → Prints out out' r (stores_text stores) → HasDrained d regions stores (at s out) (at s out') r
  drained_none regions s out out' r all no_book w = record { drained = 0; text = []; played = d.none s; filled = λ e. absurd (no_book e); all = all; written = subst (Prints out out' r) (sym (append-nil (stores_text stores))) w }

  -- one drain more, or not
  next_drain : (k : ℕ) (r : Result (Unit {0}) Stop) (old mid new : S) (done undone : List Command) (xs ys : List ℕ) → Call (Drain k) ∷ [] ≡ done ++ undone → IsUndone (more_may_come r) undone → d.did old (drains k) xs mid → d.did mid done ys new
      → (n : ℕ) × d.did old (drains n) (xs ++ ys) new × (r ≡ Ok tt → n ≡ k + 1)
  next_drain k r old mid new [] undone xs ys e stopped p q =
      (k, subst (λ (cs : List Command). d.did old cs (xs ++ ys) new) (append-nil (drains k)) (d.then old mid new (drains k) [] xs ys p q), λ ok. let none : undone ≡ [] = subst (λ (s : Result (Unit {0}) Stop). IsUndone (more_may_come s) undone) ok stopped in cc)
  next_drain k r old mid new (c ∷ []) undone xs ys e stopped p q =
      let is : c ∷ [] ≡ Call (Drain k) ∷ [] = cc in
      (suc k, d.then old mid new (drains k) (Call (Drain k) ∷ []) xs ys p (subst (λ (cs : List Command). d.did mid cs ys new) is q), λ ok. omega arith)
  next_drain k r old mid new (c ∷ x ∷ cs) undone xs ys e stopped p q = cc

  said_as : (out out' : Option (List ℕ)) (r : Result (Unit {0}) Stop) (text : List ℕ) → Prints out out' (more_may_come r) text → Prints out out' r text
  said_as out out' (Ok done) text w = w
  said_as out out' (Err stop) text w = written_as out out' (Err stop) text w

  pub drained_then : (regions k : ℕ) (old mid new : At S) (r : Result (Unit {0}) Stop) → HasDrained d k stores old mid (Ok tt) → Does (deeds_of d) (Call (Drain k) ∷ []) mid new (more_may_come r) → (r ≡ Ok tt → k + 1 ≡ regions) → HasDrained d regions stores old new r
  drained_then regions k old mid new r p q last =
      let next = next_drain k r old.state mid.state new.state q.done q.undone p.text q.text q.all q.stopped (subst (λ j. d.did old.state (drains j) p.text mid.state) (p.all refl) p.played) q.made in
      record {
        drained = next.0;
        text = p.text ++ q.text;
        played = next.1;
        filled = λ e. q.filled (ap more_may_come e);
        all = λ e. next.2 e ∙ last e;
        written = subst (Prints old.written new.written r) (append_assoc (stores_text stores) p.text q.text)
            (puts_then old.written mid.written new.written (written_by r) (stores_text stores ++ p.text) q.text p.written (said_as mid.written new.written r q.text q.written));
      }
