use Rattle.std.specs.Prelude.{◌≡◌, ◌≤◌, ◌+◌}
use Rattle.g1_replay.specs.{All, vec_len, sum_by, into_iter_len, into_iter_items, sender_rights, taker_rights, IsSenderOf, IsTakerOf, null_of, racer_start, sweeper_start, IsFreshRacer, IsFreshSweeper, party_rights, AllFrom, IsNewParty}
use Rattle.g1_replay.proofs.races.parties.parties_of.Given as goal

abbrev pub invariant-loop-racer : goal.invariant-loop-racer
invariant-loop-racer l = record {
  left : vec_len l.senders ≡ into_iter_len l.racer-iterator;
  len : vec_len l.parties + into_iter_len l.racer-iterator ≡ vec_len l.fn.racing_ends.0;
  rights : sum_by party_rights l.parties.items + sum_by sender_rights l.senders.items ≡ sum_by sender_rights l.fn.racing_ends.1.items;
  racers : All (IsFreshRacer l.race.table.table_id l.race.shape) (into_iter_items l.racer-iterator);
  begun : All (λ x. racer_start x ≡ null_of l.race.shape) (into_iter_items l.racer-iterator);
  senders : All (IsSenderOf l.line) l.senders.items;
  parties : AllFrom (IsNewParty l.race l.line (vec_len l.fn.racing_ends.0)) 0 l.parties.items;
}

abbrev pub invariant-loop-sweeper : goal.invariant-loop-sweeper
invariant-loop-sweeper l = record {
  left : vec_len l.takers ≡ into_iter_len l.sweeper-iterator;
  behind : vec_len l.fn.racing_ends.0 ≤ vec_len l.parties;
  len : vec_len l.parties + into_iter_len l.sweeper-iterator ≡ vec_len l.fn.racing_ends.0 + vec_len l.fn.sweeping_ends.0;
  rights : sum_by party_rights l.parties.items + sum_by taker_rights l.takers.items ≡ sum_by sender_rights l.fn.racing_ends.1.items + sum_by taker_rights l.fn.sweeping_ends.1.items;
  sweepers : All (IsFreshSweeper l.race.table.table_id l.race.shape) (into_iter_items l.sweeper-iterator);
  begun : All (λ x. sweeper_start x ≡ null_of l.race.shape) (into_iter_items l.sweeper-iterator);
  takers : All (IsTakerOf l.line) l.takers.items;
  parties : AllFrom (IsNewParty l.race l.line (vec_len l.fn.racing_ends.0)) 0 l.parties.items;
}
