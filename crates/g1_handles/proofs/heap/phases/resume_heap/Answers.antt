-- The race goes on as the pause left it, with the parties that are handed out.
use Rattle.std.specs.Prelude.{◌≡◌}
use Rattle.g1_handles.specs.{arith, rules, List, Some, All, map, sym, ap, ◌∙◌, refl, Option, arc_value, racer_log, IsNewRacer, IsNewSweeper, start_at, UnderWay, RacingHeap, RacerParty, SweeperParty, GoesOn, LeavesPause, boxed_counts, heap_counts, log_of, held_racers, held_sweepers, role_in, BelongsTo, idle_counts}
use Rattle.g1_handles.specs.declared.heap.racing_heap.AtPause.{AtPause}
use Rattle.g1_handles.specs.declared.heap.racing_heap.Readers.{Readers}
use Rattle.std.proofs.lemmas.Grind.{common_steps}
use Rattle.g1_handles.proofs.{found, seen_alike}
use Rattle.g1_handles.proofs.heap.phases.resume_heap.Goals as goal

goes_on : (a : AtPause) (b : UnderWay) (rs : List (Option RacerParty)) (ss : List (Option SweeperParty)) → LeavesPause a b
    → map role_in rs ≡ map (λ r. Some r) b.racers.roles.items → map role_in ss ≡ map (λ w. Some w) b.sweepers.roles.items
    → All (BelongsTo (arc_value b.race)) rs → All (BelongsTo (arc_value b.race)) ss → GoesOn a.pause (arc_value b.race) rs ss
goes_on a b rs ss go racers sweepers of too =
    let begin = start_at a.pause in
    let id = (arc_value b.race).table.table_id in
    record {
      began = go.began;
      racing = λ k d below. (of k d below, found role_in (IsNewRacer id begin) rs _ racers go.racing k d below);
      sweeping = λ k d below. (too k d below, found role_in (IsNewSweeper id begin) ss _ sweepers go.sweeping k d below);
      logs = sym (seen_alike role_in racer_log log_of (λ r. refl) rs _ (sym racers)) ∙ go.logs;
    }

pub hand_out_to-requires : goal.hand_out_to-requires
hand_out_to-requires c =
    let go = rw (c.in-Paused.is, c.in-Racing.is) at c.replace_with.ensures in
    (arc_value c.in-Racing.under_way.race, first_of (search rules, grind (arith, common_steps)))

pub hand_out_to-requires-2 : goal.hand_out_to-requires-2
hand_out_to-requires-2 c =
    let go = rw (c.in-Paused.is, c.in-Racing.is) at c.replace_with.ensures in
    (arc_value c.in-Racing.under_way.race, first_of (search rules, grind (arith, common_steps)))

pub returns-clause-resumed : goal.returns-clause-resumed
returns-clause-resumed c =
    let b = c.in-Racing.under_way in
    let out = c.hand_out_to.ensures in
    let too = c.hand_out_to-2.ensures in
    let go = rw (c.in-Paused.is, c.in-Racing.is) at c.replace_with.ensures in
    let on = goes_on c.in-Paused.at b (held_racers c.hand_out_to.new.handles) (held_sweepers c.hand_out_to-2.new.handles) go out.roles too.roles (out.race _ go.racers.waiting) (too.race _ go.sweepers.waiting) in
    let was = c.in-Some.ensures.lent ∙ ap (λ (h : RacingHeap). Some h) c.in-Paused.is in
    record {
      resumed = rw (c.in-Some.ensures.lent, c.in-Paused.is) on;
      race = search rules;
      counts = (λ i. (out.counts i, too.counts i)) ∙ ((λ i. (boxed_counts (go.racers_waited i), boxed_counts (go.sweepers_waited i))) ∙ sym (ap heap_counts was));
      idle = ap (λ (r : Readers). boxed_counts r.idle) go.idle ∙ sym (ap idle_counts was);
      parties = search rules;
      closed = search rules;
    }
