-- The word stands for what the core answers.
use Rattle.g1_handles.specs.{ℕ, Option, sym, RefersTo}
use Rattle.g1_handles.proofs.{moved_to}
use Rattle.g1_handles.proofs.one_core.queries.target_in.Goals as goal

pub returns : goal.returns
returns c =
    let at = rw c.in_ok-slot.ensures.ok_part at c.slot.ensures in
    let so = moved_to (λ (slot : ℕ) (target : Option ℕ). RefersTo c.args.core.now slot target c.target.new.self) at.1 (sym c.reference_word.ensures)
    (record { did = c.target.ensures.did; step = c.target.ensures.step; later = c.target.ensures.later }) in
    (so, tt, tt)
