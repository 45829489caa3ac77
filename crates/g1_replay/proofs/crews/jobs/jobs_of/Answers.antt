use Rattle.std.specs.Prelude.{◌≡◌, ◌+◌, ◌++◌}
use Rattle.g1_replay.specs.{◌∙◌, ℕ, drop, map, add-one, ap, sym, subst, vec_len, All, arith, into_iter_items, All-nil, All-push, IsCallerOf, AllFrom, IsScriptAt}
use Rattle.g1_steps.proofs.WorkerLemmas.{started_more}
use Rattle.g1_replay.proofs.{all_from_rest}
use Rattle.g1_replay.proofs.crews.jobs.jobs_of.Goals as goal

pub loop-caller-preserved : goal.loop-caller-preserved
loop-caller-preserved g c =
    let was = c.loop-caller.invariant in
    let steps = c.in-Some.ensures.steps in
    let scripts = c.args.scripts.items in
    let made = vec_len c.loop-caller.jobs in
    let first = all_from_rest (λ k caller. IsCallerOf c.args.shared.now caller × (caller.counts.number ≡ k)) made _ _ _ steps.0 was.rest in
    let next = c.next_script-script.ensures scripts made was.left in
    let number : made ≡ c.new.result.caller.counts.number = sym first.0.1 ∙ sym (ap (λ x. x.counts.number) c.new.ensures.caller) in
    let more : made + 1 ≡ vec_len c.push_reserved.new.self = sym c.push_reserved.ensures.len in
    record {
      count = omega arith;
      room = omega arith;
      rest = subst (λ (n : ℕ). AllFrom (λ k caller. IsCallerOf c.args.shared.now caller × (caller.counts.number ≡ k)) n (into_iter_items c.next.new.self)) (sym (add-one made) ∙ more) first.1;
      callers = started_more (λ job. job.desk.caller) _ _ _ _ _ _ _ was.callers steps.0 c.push_reserved.ensures.items c.new.ensures.caller;
      jobs = rw c.push_reserved.ensures.items (All-push (λ job. IsScriptAt (λ steps. steps.items) c.args.rounds scripts job.desk.caller.counts.number job.script) _ _ was.jobs
          (subst (λ (n : ℕ). IsScriptAt (λ steps. steps.items) c.args.rounds scripts n c.next_script-script.result) number next.0));
      shared = rw c.push_reserved.ensures.items (All-push (λ job. job.desk.shared.now ≡ c.args.shared.now) _ _ was.shared c.new.ensures.shared);
      left = next.1 ∙ ap (λ n. drop n scripts) more;
    }

-- no caller has a job at first
pub loop-caller-init : goal.loop-caller-init
loop-caller-init g c =
    let given : into_iter_items c.into_iter-caller-iterator.result ≡ c.args.callers.items = c.into_iter-caller-iterator.ensures.into_iter_gives.0 in
    let left = c.into_iter-caller-iterator.ensures.into_iter_gives.1 in
    let none = c.in_ok-jobs.ensures.items in
    let empty : 0 ≡ vec_len c.in_ok-jobs.jobs = sym c.in_ok-jobs.ensures.len in
    record {
      count = omega (arith, left, c.in_ok-jobs.ensures.len);
      room = omega (arith, c.len.ensures, c.in_ok-jobs.ensures.capacity);
      rest = subst (λ (n : ℕ). AllFrom (λ k caller. IsCallerOf c.args.shared.now caller × (caller.counts.number ≡ k)) n (into_iter_items c.into_iter-caller-iterator.result)) empty
          (subst (AllFrom (λ k caller. IsCallerOf c.args.shared.now caller × (caller.counts.number ≡ k)) 0) (sym given) c.requires);
      callers = ap (λ jobs. map (λ job. job.desk.caller) jobs ++ into_iter_items c.into_iter-caller-iterator.result) none ∙ given;
      jobs = subst (λ jobs. All (λ job. IsScriptAt (λ steps. steps.items) c.args.rounds c.args.scripts.items job.desk.caller.counts.number job.script) jobs) (sym none)
          (All-nil (λ job. IsScriptAt (λ steps. steps.items) c.args.rounds c.args.scripts.items job.desk.caller.counts.number job.script));
      shared = subst (λ jobs. All (λ job. job.desk.shared.now ≡ c.args.shared.now) jobs) (sym none) (All-nil (λ job. job.desk.shared.now ≡ c.args.shared.now));
      left = ap (λ n. drop n c.args.scripts.items) empty;
    }
