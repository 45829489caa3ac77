use Rattle.g1_replay.specs.{refl, None, Some, true, rules, arith, Ok, Err, Fault}
use Rattle.g1_replay.proofs.{line_shown, first_played, line_done, line_passed, line_unread}
use Rattle.g1_replay.proofs.ReadingLemmas.{command_faulty, command_read, takes_some}
use Rattle.g1_replay.proofs.lines.source.Commands.play_other.Goals as goal

pub returns-in-Err : goal.returns-in-Err
returns-in-Err g c =
    let whole = rw c.in-Whole-default-default.is-0 at c.part_of.ensures.goes_on in
    first_played g.P.Player.plays _ _ c.args.bytes.now _ (Err (Fault c.in-Err.fault))
    (λ rd rd' moved. line_unread g.P.Player.plays.deeds _ _ _ _ _ (Fault c.in-Err.fault) tt (command_faulty _ _ _ _ _ _ _ (line_shown rd rd' c.args.bytes.now _ _ whole (omega arith) moved) c.in-Err.ensures.read))
    (refl, refl, refl) refl (takes_some _ _ _ whole.2, c.part_of.ensures.shown) (omega arith) (search rules) (search rules)

pub returns-in_default-asked : goal.returns-in_default-asked
returns-in_default-asked g c =
    let whole = rw c.in-Whole-default-default.is-0 at c.part_of.ensures.goes_on in
    first_played g.P.Player.plays _ _ c.args.bytes.now _ (Ok tt)
    (λ rd rd' moved. line_passed g.P.Player.plays.deeds _ _ _ _ _ true (command_read _ _ _ _ _ _ None (line_shown rd rd' c.args.bytes.now _ _ whole (omega arith) moved) (rw c.in_default-asked.is at c.in-Ok.ensures.read)))
    (refl, refl, refl) refl (takes_some _ _ _ whole.2, c.part_of.ensures.shown) (omega arith) (search rules) (search rules)

pub returns : goal.returns
returns g c =
    let whole = rw c.in-Whole-default-default.is-0 at c.part_of.ensures.goes_on in
    first_played g.P.Player.plays _ _ c.args.bytes.now _ c.play-played.result
    (λ rd rd' moved. line_done g.P.Player.plays c.in-Some.command _ _ _ _ c.play-played.result c.play-played.ensures.stops
    (command_read _ _ _ _ _ _ (Some c.in-Some.command) (line_shown rd rd' c.args.bytes.now _ _ whole (omega arith) moved) (rw c.in-Some.is at c.in-Ok.ensures.read)) c.play-played.ensures.played)
    (refl, refl, refl) refl (takes_some _ _ _ whole.2, c.part_of.ensures.shown) (omega arith) (search rules) (search rules)
