-- What a call at a pause keeps.
use Rattle.std.specs.Prelude.{◌≡◌}
use Rattle.g1_handles.specs.{ℕ, List, rules, sym, subst, Pause, IsRaceWith, ClearReply, Cleared, Pending, StillReferenced, FreesAt}

pub kept_same : (old new : Pause) → new ≡ old → IsRaceWith new.logs old new
kept_same old new e = subst (λ (p : Pause). IsRaceWith p.logs old p) (sym e) (search rules)

-- whether the regions were freed or not
pub kept_free : (old : Pause) (regions : List ℕ) (reply : ClearReply) (new : Pause) → FreesAt old regions reply new → IsRaceWith new.logs old new
kept_free old regions Cleared new frees = subst (λ (logs : List (List ℕ)). IsRaceWith logs old new) (sym frees.race.logs) frees.race
kept_free old regions (Pending count) new is = kept_same old new is.0
kept_free old regions (StillReferenced slot) new is = kept_same old new is.0
