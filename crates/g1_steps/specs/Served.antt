-- Which calls serve what a worker asked for, where no lock hides them.
use Rattle.std.specs.Prelude.{◌≡◌, ◌∷◌, ◌++◌}
use Rattle.g1_steps.specs.Prelude.{Bool, true, false, List, [], filter, sym, ap, subst, ◌∙◌}
use Rattle.g1_steps.specs.Prelude.{append_assoc, filter-append, Taker, taken_of, IsSameTaker}
use Rattle.g1_steps.specs.Prelude.{Refusal, No, Full, Helped}
use Rattle.g1_core.specs.declared.reply.Fill.{Fill}
use Rattle.g1_steps.specs.Made.{CallMade, Stored, Refined, Refused}
use Rattle.g1_steps.specs.Rounds.{IsRefused}
use Rattle.g1_steps.specs.Ask.{Ask, AskStore, AskFlush, AskWork}
use Rattle.g1_steps.specs.declared.steps.mutator.Mutator.{Mutator}

-- whether a call was made, and not refused
abbrev pub was_made : CallMade → Bool
was_made (Stored slot target reply) = true
was_made (Refined buffer reply) = true
was_made (Refused refusal) = false

-- Refinements and no other calls.
abbrev pub AreRefinements : List CallMade → Type 0
AreRefinements [] = Unit {0}
AreRefinements (Refined buffer reply ∷ calls) = AreRefinements calls
AreRefinements (_ ∷ calls) = ⊥

-- A help: one refinement, or none.
abbrev pub IsHelp : List CallMade → Type 0
IsHelp [] = Unit {0}
IsHelp (Refined buffer reply ∷ []) = Unit {0}
IsHelp _ = ⊥

-- A help behind a store that came to this of its log: only one that filled it has a help.
abbrev pub IsHelpBehind : Fill → List CallMade → Type 0
IsHelpBehind Full help = IsHelp help
IsHelpBehind No help = help ≡ []
IsHelpBehind Helped help = help ≡ []

-- Just these calls are made for what was asked: a store makes its call, and one more where it
-- helped; a flush one where it helped.
abbrev pub Serves : Ask → List CallMade → Type 0
Serves (AskStore slot target) (Stored slot' target' reply ∷ help) =
    (slot' ≡ slot) × (target' ≡ target) × IsHelpBehind reply.fill help
Serves (AskStore slot target) _ = ⊥
Serves AskFlush help = IsHelp help
Serves AskWork calls = AreRefinements calls

-- What was asked is refused: a store by its own call, a round for room or by its first call. A
-- flush never is. The mutator keeps its log and its sender, and nothing is taken, but by a round
-- whose first call is refused.
abbrev pub IsRefusedFor : {S : Type 0} → (S → List CallMade → S → Type 0) → S → Mutator → Taker
    → Ask → Refusal → S → Mutator → Taker → Type 0
IsRefusedFor did old m before (AskStore slot target) why new n after =
    did old (Refused why ∷ []) new × (n.log ≡ m.log) × (n.sender ≡ m.sender) × (after ≡ before)
IsRefusedFor did old m before AskFlush why new n after = ⊥
IsRefusedFor did old m before AskWork why new n after =
    IsRefused did (Unit {0}) old (taken_of before) why new (taken_of after) × (n ≡ m)
    × IsSameTaker after before

-- The same of all that was asked, one after the other.
abbrev pub ServesAll : List Ask → List CallMade → Type 0
ServesAll [] calls = calls ≡ []
ServesAll (ask ∷ asks) calls =
    (front : List CallMade) × (back : List CallMade) × (calls ≡ front ++ back) × Serves ask front
    × ServesAll asks back

-- A worker made the calls that serve what it asked for; refused ones may stand among them.
pub record HasServed {S : Type 0} (did : S → List CallMade → S
    → Type 0) (old : S) (asks : List Ask) (new : S) : Type 0 where
  pub calls : List CallMade
  pub made : did old calls new
  pub serves : ServesAll asks (filter was_made calls)

pub serves_then : (xs ys : List Ask) (ms ns : List CallMade) → ServesAll xs ms → ServesAll ys ns
    → ServesAll (xs ++ ys) (ms ++ ns)
serves_then [] ys ms ns p q = subst (λ l. ServesAll ys (l ++ ns)) (sym p) q
serves_then (x ∷ xs) ys ms ns p q = (
  p.0,
  p.1
      ++ ns,
  ap (λ l. l ++ ns) p.2 ∙ append_assoc p.0 p.1 ns,
  p.3,
  serves_then xs ys p.1 ns p.4 q,
)

pub served_then : {S : Type 0} (did : S → List CallMade → S → Type 0)
    → ((s t u : S) (xs ys : List CallMade) → did s xs t → did t ys u → did s (xs ++ ys) u)
    → (s t u : S) (xs ys : List Ask) → HasServed did s xs t → HasServed did t ys u
    → HasServed did s (xs ++ ys) u
served_then did then s t u xs ys p q = record {
  calls = p.calls ++ q.calls;
  made = then s t u p.calls q.calls p.made q.made;
  serves = subst (ServesAll (xs
      ++ ys)) (sym (filter-append was_made p.calls q.calls))
      (serves_then xs ys (filter was_made p.calls) (filter was_made q.calls) p.serves q.serves);
}
