use Rattle.std.specs.Prelude.{◌^◌, ◌≡◌, ◌+◌, ◌<◌}
use Rattle.g1_replay.specs.{◌∙◌, List, length, map, ap, refl, sym, subst, arith, All, sum_by, [], ℕ, true, In, length-map, StepFits, slot_count, IsPairOf, Racer, Begun, beginning, null_of, IsKnown, IsOver, shape_of, null_begun, race_begun, racer_view, sweeper_view, Party, party_rights}
use Rattle.g1_layout.specs.Shape as layout
use Rattle.g1_race_words.specs.declared.view.RaceShape.{RaceShape}
use Rattle.g1_race.proofs.Fresh.{begun_as}
use Rattle.g1_race.proofs.Opening.{begins_null}
use Rattle.g1_replay.proofs.LeftLemmas.{table_left}
use Rattle.g1_replay.proofs.StoreLemmas.{own, steps_at, stored_at, stored_own, stores_low}
use Rattle.g1_replay.proofs.{AreBack, are_back, each_script}
use Rattle.g1_replay.proofs.RanRaceLemmas.{AreRun, are_run, each_own, every_own, views_of}
use Rattle.g1_replay.proofs.races.jobs.run_race.Goals as goal
use Rattle.g1_replay.proofs.races.jobs.run_race.Goals.{In_ok-returned}

-- the jobs were run
run : (g : _) (c : In_ok-returned g) → AreRun (λ d. d.party) c.args.opened.race c.args.opened.line c.args.options.now.mutators (stored_at (λ steps. steps.items) c.args.scripts.items) 0 c.in_ok-jobs.jobs.items c.in_ok-done.done.items
run g c = are_run (λ d. d.party) (λ steps. steps.items) c.args.opened.race c.args.opened.line c.args.options.now.mutators c.args.options.now.rounds c.args.scripts.items (omega (arith, c.requires.count, c.args.scripts.ok.0)) 0 c.in_ok-jobs.jobs.items c.in_ok-done.done.items c.in_ok-jobs.ensures.jobs c.in_ok-done.ensures.ran c.in_ok-returned.ensures.whole

-- and their parties are back
back : (g : _) (c : In_ok-returned g) → AreBack c.args.opened.race c.args.opened.line (map (λ job. job.desk.party) c.in_ok-done.done.items) c.in_ok-returned.returned.racers.items c.in_ok-returned.returned.senders.items c.in_ok-returned.returned.sweepers.items c.in_ok-returned.returned.takers.items
back g c = are_back c.args.opened.race c.args.opened.line _ c.in_ok-returned.returned c.in_ok-returned.ensures.back (run g c).of

pub settle-requires-clause-senders : goal.settle-requires-clause-senders
settle-requires-clause-senders g c = (back g c).senders

pub settle-requires-clause-takers : goal.settle-requires-clause-takers
settle-requires-clause-takers g c = (back g c).takers

pub settle-requires-clause-all : goal.settle-requires-clause-all
settle-requires-clause-all g c = omega (arith, (back g c).rights, (run g c).rights, ap (λ (ms : List Party). sum_by party_rights ms) c.in_ok-jobs.ensures.parties, c.requires.opened.ends)

pub close-requires-clause-racers : goal.close-requires-clause-racers
close-requires-clause-racers g c =
    let at = (goal.at.close-requires-clause-racers g c).In_ok-returned in
    let parties = ap (λ (ms : List Party). length ms) c.in_ok-jobs.ensures.parties in
    let shape = ap (λ k. k.parties) c.requires.opened.shape in
    (omega (arith, (back g at).many, (run g at).len, parties, c.requires.opened.many, shape, c.in_ok-returned.returned.racers.ok.0, c.in_ok-returned.returned.sweepers.ok.0, c.args.opened.parties.ok.0), λ k d lt. ((back g at).racers k d lt).0)

pub close-requires-clause-sweepers : goal.close-requires-clause-sweepers
close-requires-clause-sweepers g c k d lt = ((back g (goal.at.close-requires-clause-sweepers g c).In_ok-returned).sweepers k d lt).0

pub returns-clause-left : goal.returns-clause-left
returns-clause-left g c = λ commands of.
    let race = c.args.opened.race in
    let line = c.args.opened.line in
    let mutators = c.args.options.now.mutators in
    let scripts = c.args.scripts.items in
    let fits = c.requires.fits in
    let kept = stored_at (λ steps. steps.items) scripts in
    let many : length scripts ≡ mutators = omega (arith, c.requires.count, c.args.scripts.ok.0) in
    let same : (m : ℕ) → m < mutators → kept m ≡ own m commands = λ m lt. stored_own (λ steps. steps.items) scripts commands of m (subst (λ n. m < n) (sym many) lt) in
    let closed = c.close.result in
    let count = mutators + c.args.options.now.refiners in
    let ms = map (λ job. job.desk.party) c.in_ok-done.done.items in
    let rs = c.in_ok-returned.returned.racers.items in
    let ws = c.in_ok-returned.returned.sweepers.items in
    let sweepers = map sweeper_view ws in
    let run = run g (goal.at.returns-clause-left g c).In_ok-returned in
    let back = back g (goal.at.returns-clause-left g c).In_ok-returned in
    let parties = ap (λ (xs : List Party). length xs) c.in_ok-jobs.ensures.parties in
    let laid = c.close.ensures.layout in
    let some : 0 < length rs + length ws = omega (arith, back.many, run.len, parties, c.requires.opened.many, c.args.opened.parties.ok.0, c.args.options.now.mutators_in) in
    let begun : race_begun race (map racer_view rs) sweepers ≡ null_begun closed.layout count =
    begun_as race (null_of race.shape) rs ws (λ k d lt. (back.racers k d lt).1) (λ k d lt. (back.sweepers k d lt).1) refl some ∙ (ap (λ (k : RaceShape). beginning (null_of k)) (c.requires.opened.shape ∙ ap (λ (l : layout.Shape). shape_of l count) (sym laid)) ∙ begins_null closed.layout count) in
    let over = subst (λ (xs : List Racer). IsOver (null_begun closed.layout count) closed.words (map racer_view xs) sweepers) c.in_ok-returned.ensures.back.racers (subst (λ (b : Begun). IsOver b closed.words (map racer_view rs) sweepers) begun c.close.ensures.over) in
    let low : slot_count race.layout < 2 ^ 32 = subst (λ (k : RaceShape). k.slots < 2 ^ 32) race.laid race.shaped.3 in
    table_left closed count mutators commands (views_of ms) sweepers over
    (λ h a. let by = each_own mutators kept 0 ms run.run h a in (by.0, by.1, by.2 ∙ same by.0 by.1))
    (λ m lt.
    let by = every_own mutators kept 0 ms run.run m (omega arith) lt
    (omega (arith, run.len, parties, c.requires.opened.many, c.args.opened.parties.ok.0)) in
    (by.0, by.1, by.2 ∙ same m lt))
    (λ m slot word lt i. stores_low (slot_count race.layout) (steps_at (λ steps. steps.items) scripts m) low
    (each_script (λ steps. steps.items) (All (StepFits (slot_count race.layout) true)) scripts fits m [] (omega (arith, length-map scripts (λ steps. steps.items), many, lt)))
    slot word (subst (λ (l : List (ℕ × ℕ)). In l (slot, word)) (sym (same m lt)) i))
    c.close.ensures.cover
    (λ x i. subst (λ (l : layout.Shape). IsPairOf l x) (sym c.close.ensures.layout) (c.close.ensures.within x i))
    (λ x i. subst (λ (b : Begun). IsKnown b sweepers x) begun ((c.close.ensures.pairs x).0 i))
