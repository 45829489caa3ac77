use Rattle.g1_replay.specs.{◌∙◌, ap, sym, subst, zero-add, arith, slot_count, capacity_of, AreMadeBy}
use Rattle.g1_replay.proofs.JobLemmas.{has_come}
use Rattle.g1_replay.proofs.{each_from, script_at_fits}
use Rattle.g1_replay.proofs.crews.jobs.run_jobs.Goals as goal

pub jobs_of-requires : goal.jobs_of-requires
jobs_of-requires g c = each_from _ 0 _ (λ k d lt.
    let new = c.in-Ok.ensures.each k d (omega (arith, lt, c.in-Ok.ensures.callers, c.in-Ok.callers.ok.0)) in
    (new.of, ap (λ counts. counts.number) new.counts ∙ sym (zero-add k)))

pub run_crew-requires-after_bounds : goal.run_crew-requires-after_bounds
run_crew-requires-after_bounds g c lts lives k d lt =
    script_at_fits (λ steps. steps.items) (slot_count g.M.Terms.terms.layout) c.args.options.now.rounds g.M.Terms.terms.mutators _ c.args.scripts.items _ (omega (arith, c.requires.count, c.args.scripts.ok.0)) c.requires.fits
    (c.in_ok-jobs.ensures.scripts k d lt)

pub returns-clause-came : goal.returns-clause-came
returns-clause-came g c =
    let told = c.finish-book.ensures.told in
    has_come g.M.Terms.terms.layout (λ d. capacity_of d.shared.now) (λ d. d.caller) _ _ g.M.Terms.terms.settings.limit _ c.finish-book.result.entries c.in-Ok.callers.items c.callers_of-callers.result.0.items c.in_ok-jobs.jobs.items c.in_ok-done.done.items
    c.in_ok-done.ensures.ran c.in_ok-jobs.ensures.scripts (λ k d lt. ap capacity_of (c.in_ok-jobs.ensures.shared k d lt) ∙ c.in-Ok.ensures.capacity) c.in_ok-jobs.ensures.callers (omega (arith, c.in-Ok.ensures.callers, c.in-Ok.callers.ok.0))
    (λ k d lt. (c.in-Ok.ensures.each k d (omega (arith, lt, c.in-Ok.ensures.callers, c.in-Ok.callers.ok.0))).counts)
    c.callers_of-callers.ensures.first c.callers_of-callers.ensures.callers
    (subst (AreMadeBy c.callers_of-callers.result.0.items) (sym told.run.remembers) told.made)
