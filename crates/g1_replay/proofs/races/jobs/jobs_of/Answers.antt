use Rattle.std.specs.Prelude.{◌≡◌, ◌+◌}
use Rattle.g1_replay.specs.{◌∙◌, ℕ, suc, drop, vec_len, with_flush, ap, sym, subst, arith, into_iter_items, All-push, All-same, slot_count, race_layout, ScriptFits, Party, is_racer, AllFrom, IsNewParty, IsScriptAt}
use Rattle.g1_race.specs.declared.race.Race.{Race}
use Rattle.g1_steps.proofs.WorkerLemmas.{started_more}
use Rattle.g1_replay.proofs.{all_from_next, all_from_rest, flushes_fit, script_at_fits}
use Rattle.g1_replay.proofs.races.jobs.jobs_of.Goals as goal

pub loop-party-preserved : goal.loop-party-preserved
loop-party-preserved g c =
    let was = c.loop-party.invariant in
    let steps = c.in-Some.ensures.steps in
    let race = c.args.race.now in
    let line = c.args.line.now in
    let mutators = c.args.options.now.mutators in
    let rounds = c.args.options.now.rounds in
    let scripts = c.args.scripts.items in
    let k = vec_len c.loop-party.jobs in
    let script = c.in_ok-script.script in
    let first = all_from_rest (IsNewParty race line mutators) k _ _ _ steps.0 was.rest in
    let next = c.in_ok-script.ensures scripts k was.left in
    let slots = slot_count (race_layout race) in
    let fits = subst (λ b. ScriptFits slots b script) (sym first.0.kind)
    (script_at_fits (with_flush (λ steps. steps.items)) slots rounds mutators k scripts script (omega (arith, c.requires.count, c.args.scripts.ok.0)) (flushes_fit (λ steps. steps.items) slots scripts c.requires.fits) next.0) in
    let more : suc k ≡ vec_len c.push_reserved.new.self = omega (arith, c.push_reserved.ensures.len) in
    let past : k + 1 ≡ vec_len c.push_reserved.new.self = omega (arith, c.push_reserved.ensures.len) in
    record {
      len = omega (arith, was.len, steps.1, c.push_reserved.ensures.len);
      room = omega (arith, was.room, c.push_reserved.ensures.capacity);
      same = started_more (λ job. job.desk.party) _ _ _ _ _ _ _ was.same steps.0 c.push_reserved.ensures.items c.new.ensures.party;
      rest = subst (λ (n : ℕ). AllFrom (IsNewParty race line mutators) n (into_iter_items c.next.new.self)) more first.1;
      jobs = all_from_next (λ i job. IsNewParty race line mutators i job.desk.party × IsScriptAt (with_flush (λ steps. steps.items)) rounds scripts i job.script) _ _ k _ c.push_reserved.ensures.items (omega (arith, c.loop-party.jobs.ok.0)) was.jobs
          (subst (λ (m : Party). IsNewParty race line mutators k m × IsScriptAt (with_flush (λ steps. steps.items)) rounds scripts k script) (sym c.new.ensures.party) (first.0, next.0));
      fits = All-same (λ job. ScriptFits (slot_count (race_layout job.desk.race.now)) (is_racer job.desk.party) job.script) _ _ c.push_reserved.ensures.items
          (All-push (λ job. ScriptFits (slot_count (race_layout job.desk.race.now)) (is_racer job.desk.party) job.script) _ _ was.fits
          (subst (λ (m : Party). ScriptFits (slot_count (race_layout c.new.result.race.now)) (is_racer m) script) (sym c.new.ensures.party)
          (subst (λ (r : Race). ScriptFits (slot_count (race_layout r)) (is_racer c.in-Some.party) script) (sym c.new.ensures.race) fits)));
      logs = All-same (λ job. job.desk.fill ≡ c.args.options.now.config.log) _ _ c.push_reserved.ensures.items
          (All-push (λ job. job.desk.fill ≡ c.args.options.now.config.log) _ _ was.logs (c.new.ensures.fill ∙ c.log.ensures.cards));
      left = next.1 ∙ ap (λ n. drop n scripts) past;
    }

pub new-requires-clause-empty : goal.new-requires-clause-empty
new-requires-clause-empty g c = (all_from_rest (IsNewParty c.args.race.now c.args.line.now c.args.options.now.mutators) (vec_len c.loop-party.jobs) _ _ _ c.in-Some.ensures.steps.0 c.loop-party.invariant.rest).0.logged
