use Rattle.std.specs.Prelude.{◌≡◌, ◌<◌}
use Rattle.g1_replay.specs.{ap, sym, refl, arith, nat_lt, true, false, length, Some, vec_len, lt-ltb, le-ltb, All-head, All-pop, All-rest, All-same, sender_rights, taker_rights, IsSenderOf, IsTakerOf, Racer, Sweeper, null_of, racer_start, sweeper_start, IsFreshRacer, IsFreshSweeper, IsNewParty}
use Rattle.g1_replay.proofs.{all_from_next, rights_move}
use Rattle.g1_replay.proofs.races.parties.parties_of.Goals as goal

pub loop-racer-preserved : goal.loop-racer-preserved
loop-racer-preserved c =
    let was = c.loop-racer.invariant in
    let steps = c.in-Some.ensures.steps in
    let race = c.args.race.now in
    let fresh = All-head (IsFreshRacer race.table.table_id race.shape) _ _ (All-same (IsFreshRacer race.table.table_id race.shape) _ _ (sym steps.0) was.racers) in
    let Began : Racer → Type 0 = λ x. racer_start x ≡ null_of race.shape in
    let begun = All-head Began _ _ (All-same Began _ _ (sym steps.0) was.begun) in
    let ends = All-pop (IsSenderOf c.args.line.now) _ _ (Some c.take_last.result) c.take_last.ensures.items was.senders in
    let below : vec_len c.loop-racer.parties < vec_len c.args.racing_ends.0 = omega (arith, was.len, steps.1) in
    let kind : true ≡ nat_lt (vec_len c.loop-racer.parties) (vec_len c.args.racing_ends.0) = sym (lt-ltb _ _ below) in
    record {
      left = omega (arith, was.left, steps.1, c.take_last.ensures.len);
      len = omega (arith, was.len, steps.1, c.in_ok-push.ensures.len);
      rights = rights_move sender_rights _ _ _ _ _ _ _ c.in_ok-push.ensures.items c.take_last.ensures.items refl was.rights;
      racers = All-rest (IsFreshRacer race.table.table_id race.shape) _ _ _ steps.0 was.racers;
      begun = All-rest Began _ _ _ steps.0 was.begun;
      senders = ends.0;
      parties = all_from_next (IsNewParty race c.args.line.now (vec_len c.args.racing_ends.0)) _ _ (vec_len c.loop-racer.parties) _ c.in_ok-push.ensures.items (omega (arith, c.loop-racer.parties.ok.0)) was.parties
          (record { of = (fresh.0, ends.1, begun); kind = kind; logged = ap length fresh.2; fresh = (_, ap (λ v. v.histories) fresh.1) });
    }

pub loop-sweeper-preserved : goal.loop-sweeper-preserved
loop-sweeper-preserved c =
    let was = c.loop-sweeper.invariant in
    let steps = c.in-Some-sweeper.ensures.steps in
    let race = c.args.race.now in
    let fresh = All-head (IsFreshSweeper race.table.table_id race.shape) _ _ (All-same (IsFreshSweeper race.table.table_id race.shape) _ _ (sym steps.0) was.sweepers) in
    let Began : Sweeper → Type 0 = λ x. sweeper_start x ≡ null_of race.shape in
    let begun = All-head Began _ _ (All-same Began _ _ (sym steps.0) was.begun) in
    let ends = All-pop (IsTakerOf c.args.line.now) _ _ (Some c.take_last-in-loop-sweeper.result) c.take_last-in-loop-sweeper.ensures.items was.takers in
    let kind : false ≡ nat_lt (vec_len c.loop-sweeper.parties) (vec_len c.args.racing_ends.0) = sym (le-ltb _ _ was.behind) in
    record {
      left = omega (arith, was.left, steps.1, c.take_last-in-loop-sweeper.ensures.len);
      behind = omega (arith, was.behind, c.in_ok-push-2.ensures.len);
      len = omega (arith, was.len, steps.1, c.in_ok-push-2.ensures.len);
      rights = rights_move taker_rights _ _ _ _ _ _ _ c.in_ok-push-2.ensures.items c.take_last-in-loop-sweeper.ensures.items refl was.rights;
      sweepers = All-rest (IsFreshSweeper race.table.table_id race.shape) _ _ _ steps.0 was.sweepers;
      begun = All-rest Began _ _ _ steps.0 was.begun;
      takers = ends.0;
      parties = all_from_next (IsNewParty race c.args.line.now (vec_len c.args.racing_ends.0)) _ _ (vec_len c.loop-sweeper.parties) _ c.in_ok-push-2.ensures.items (omega (arith, c.loop-sweeper.parties.ok.0)) was.parties
          (record { of = (fresh.0, ends.1, begun); kind = kind; logged = refl; fresh = tt });
    }
