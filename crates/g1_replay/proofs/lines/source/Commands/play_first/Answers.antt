use Rattle.g1_replay.specs.{refl, rules, arith}
use Rattle.g1_replay.proofs.{first_played, line_done}
use Rattle.g1_replay.proofs.ReadingLemmas.{shown_read, takes_some}
use Rattle.g1_replay.proofs.lines.source.Commands.play_first.Goals as goal

pub returns-in-Some : goal.returns-in-Some
returns-in-Some g c =
    first_played g.P.Player.plays _ _ c.args.bytes.now c.in-Some.count c.play-played.result
    (λ rd rd' moved. line_done g.P.Player.plays c.in-Some.store _ _ _ _ c.play-played.result c.play-played.ensures.stops
    (shown_read _ _ _ _ _ c.args.bytes.now c.in-Some.store c.in-Some.count c.in-Some.ensures.line moved) c.play-played.ensures.played)
    (refl, refl, refl) refl (takes_some _ _ _ c.in-Some.ensures.line.front, c.in-Some.ensures.within) (omega arith) (search rules) (search rules)
