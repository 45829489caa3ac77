-- Drains of a core, one after another.
use Rattle.std.specs.Prelude.{◌≡◌, ◌∷◌, ◌++◌}
use Rattle.g1_replay.specs.Prelude.{◌∙◌, ℕ, List, [], refl, sym, ap, subst}
use Rattle.g1_replay.specs.Prelude.{flat_map-append, Drained, drain_entry, Machine, IsStep, Table}
use Rattle.g1_replay.specs.Prelude.{Command, Drain, Call}
use Rattle.g1_replay.specs.Drains.{Draining}
use Rattle.g1_replay.specs.Race.{drain_text, drained_text}

-- from one table to another just these drains were made, and they answered so
abbrev pub AreDrains : Table → List Command → List Drained → Table → Type 0
AreDrains old [] [] new = new ≡ old
AreDrains old (Call (Drain region) ∷ drains) (answer ∷ answers) new =
    (next : Table) × IsStep old (drain_entry 0 region answer) next
    × AreDrains next drains answers new
AreDrains old drains answers new = ⊥

-- A core made these drains, and this is their text.
pub record CoreDrained (old : Machine) (drains : List Command) (text : List ℕ)
    (new : Machine) : Type 0 where
  pub answers : List Drained
  pub made : AreDrains old.state.table drains answers new.state.table
  pub said : text ≡ drained_text answers
  pub heap : new.state.table.layout ≡ old.state.table.layout

drains_then : (a b c : Table) (cs ds : List Command) (xs ys : List Drained) → AreDrains a cs xs b
    → AreDrains b ds ys c → AreDrains a (cs ++ ds) (xs ++ ys) c
drains_then a b c [] ds [] ys p q = subst (λ (t : Table). AreDrains t ds ys c) p q
drains_then a b c (Call (Drain region) ∷ cs) ds (x ∷ xs) ys p q =
    (p.0, p.1, drains_then p.0 b c cs ds xs ys p.2 q)
drains_then a b c cs ds xs ys p q = absurd p

pub core_drained_none : (m : Machine) → CoreDrained m [] [] m
core_drained_none m = record { answers = []; made = refl; said = refl; heap = refl }

pub core_drained_then : (a b c : Machine) (cs ds : List Command) (xs ys : List ℕ)
    → CoreDrained a cs xs b → CoreDrained b ds ys c → CoreDrained a (cs ++ ds) (xs ++ ys) c
core_drained_then a b c cs ds xs ys p q = record {
  answers = p.answers ++ q.answers;
  made = drains_then a.state.table b.state.table c.state.table cs ds p.answers q.answers p.made
      q.made;
  said = ap (λ l. l ++ ys) p.said ∙ ap (λ l. drained_text p.answers ++ l) q.said
      ∙ sym (flat_map-append drain_text p.answers q.answers);
  heap = q.heap ∙ p.heap;
}

-- a core, which has no book
abbrev pub core_draining : Draining Machine
core_draining = record {
  layout = λ m. m.state.table.layout;
  did = CoreDrained;
  full = λ m. ⊥;
  none = core_drained_none;
  then = core_drained_then;
  stays = λ s t cs xs d. d.heap;
}
