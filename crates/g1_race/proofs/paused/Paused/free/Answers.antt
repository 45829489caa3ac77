-- Nothing has changed before the first slot is cut.
use Rattle.std.proofs.Common.{arith}
use Rattle.std.specs.Prelude.{◌≡◌}
use Rattle.g1_race.specs.{Some, None, sym, ap, ◌∙◌, subst, none_of, Frees, IsFirstIntoAny, Pause, table_at}
use Rattle.std.specs.FinSet as fin
use Rattle.g1_race.proofs.{frees, none_into, still_clean}
use Rattle.g1_race.proofs.paused.Paused.free.Given.{Over}
use Rattle.g1_race.proofs.paused.Paused.free.Goals.{Else-pending-gt0, In_default}
use Rattle.g1_race.proofs.paused.Paused.free.Goals as goal

-- no card is pending
clean : (g : Over) (c : Else-pending-gt0 g) → (table_at c.args.self.now).pending ≡ fin.empty
clean g c = none_of (table_at c.args.self.now).pending (omega (arith, c.pending_count-pending.ensures.count, c.if-pending-gt0.false))

-- nor is one, and no slot refers into the regions, when all that is read has been read
clean_then : (g : Over) (c : In_default g) → (table_at c.entering_any.new.self).pending ≡ fin.empty
clean_then g c = ap (λ (h : Pause). (table_at h).pending) (c.entering_any.ensures.same ∙ c.pending_count-pending.ensures.same) ∙ none_of (table_at c.args.self.now).pending (omega (arith, c.pending_count-pending.ensures.count, c.if-pending-gt0.false))

none_then : (g : Over) (c : In_default g) → IsFirstIntoAny (table_at c.entering_any.new.self) c.args.regions.now None
none_then g c = subst (λ (h : Pause). IsFirstIntoAny (table_at h) c.args.regions.now None) (sym c.entering_any.ensures.same) c.in_default.ensures.first

pub entering_any-requires-clause-clean : goal.entering_any-requires-clause-clean
entering_any-requires-clause-clean g c = ap (λ (h : Pause). (table_at h).pending) c.pending_count-pending.ensures.same ∙ clean g ((goal.at.entering_any-requires-clause-clean g c).Else-pending-gt0)

pub returns-in-Some : goal.returns-in-Some
returns-in-Some g c = (
  c.entering_any.ensures.same ∙ c.pending_count-pending.ensures.same,
  clean g ((goal.at.returns-in-Some g c).Else-pending-gt0),
  subst (λ (h : Pause). IsFirstIntoAny (table_at h) c.args.regions.now (Some c.in-Some.slot)) c.pending_count-pending.ensures.same c.in-Some.ensures.first,
)

pub empty_all-requires-clause-none : goal.empty_all-requires-clause-none
empty_all-requires-clause-none g c = none_into c.entering_any.new.self c.cut_all.new.self c.forget_all.new.self c.args.regions.now (none_then g ((goal.at.empty_all-requires-clause-none g c).In_default)) c.cut_all.ensures c.forget_all.ensures

pub empty_all-requires-clause-clean : goal.empty_all-requires-clause-clean
empty_all-requires-clause-clean g c = still_clean c.entering_any.new.self c.cut_all.new.self c.forget_all.new.self c.args.regions.now (clean_then g ((goal.at.empty_all-requires-clause-clean g c).In_default)) c.cut_all.ensures c.forget_all.ensures

pub returns : goal.returns
returns g c =
    let at = (goal.at.returns g c).In_default in
    subst (λ (h : Pause). Frees h c.args.regions.now c.empty_all.new.self) (c.entering_any.ensures.same ∙ c.pending_count-pending.ensures.same)
    (frees c.entering_any.new.self c.cut_all.new.self c.forget_all.new.self c.empty_all.new.self c.args.regions.now (clean_then g at) (none_then g at) c.cut_all.ensures c.forget_all.ensures c.empty_all.ensures)
