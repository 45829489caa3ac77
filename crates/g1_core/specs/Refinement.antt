-- What a refinement of a lent buffer does.
use Rattle.std.specs.Prelude.{◌≡◌, ◌≤◌, ◌+◌, ◌*◌, if◌then◌else◌}
use Rattle.g1_core.specs.Prelude.{ℕ, false, List, [], Option}
use Rattle.g1_core.specs.Prelude.{Some, None, length, take, reads_after}
use Rattle.g1_core.specs.declared.reply.RefineReply.{RefineReply}
use Rattle.g1_core.specs.Machine.{State, Machine}
use Rattle.g1_core.specs.Turns.{Round, turns, start}

-- the round that a reply tells
abbrev pub round_of : State → RefineReply → Round
round_of s reply =
    record { state = s; refined = reply.refined; hot = reply.hot; skipped = reply.skipped }

-- The cards of a buffer had their turns, all of them or, where the reply is short, the first ones.
pub record IsTurned (old : State) (cards : List ℕ) (reply : RefineReply)
    (new : State) : Type 0 where
  pub many : ℕ
  pub within : many ≤ length cards
  pub whole : reply.short ≡ false → many ≡ length cards
  pub taken : reply.taken ≡ (if reply.short then 0 else 1)
  pub left : reply.left ≡ 0
  pub turned : round_of new reply ≡ turns (start old) (take many cards)

-- No buffer was there.
pub record IsIdle (reply : RefineReply) : Type 0 where
  pub taken : reply.taken ≡ 0
  pub refined : reply.refined ≡ []
  pub hot : reply.hot ≡ 0
  pub skipped : reply.skipped ≡ 0
  pub left : reply.left ≡ 0
  pub short : reply.short ≡ false

abbrev pub IsRefined : State → Option (List ℕ) → RefineReply → State → Type 0
IsRefined old None reply new = IsIdle reply × (new ≡ old)
IsRefined old (Some cards) reply new = IsTurned old cards reply new

-- The slots of each refined card were read, and where the reply is short those of at most one card
-- more.
pub record AreCardsRead (old : Machine) (reply : RefineReply) (new : Machine) : Type 0 where
  pub tried : ℕ
  pub each : length reply.refined ≤ tried
  pub most : tried ≤ length reply.refined + (if reply.short then 1 else 0)
  pub reads : new.reads ≡ reads_after old.reads (tried * old.state.table.layout.slots)
