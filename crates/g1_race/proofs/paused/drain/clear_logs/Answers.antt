use Rattle.std.proofs.Common.{rules}
use Rattle.g1_race.specs.{[], drop, length, map, replicate, take, vec_len, take-append_seam, racer_log}
use Rattle.g1_race.proofs.Logs.{all_empty}
use Rattle.g1_race.proofs.paused.drain.clear_logs.Goals as goal

pub returns-clause-logs : goal.returns-clause-logs
returns-clause-logs c = search (rules, [], drop, length, map, replicate, take, vec_len, take-append_seam, racer_log, all_empty)
