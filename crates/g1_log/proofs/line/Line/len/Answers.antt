use Rattle.g1_log.proofs.Passing.{admits}
use Rattle.g1_log.proofs.line.Line.len.Goals as goal

pub pass-pass-requires : goal.pass-pass-requires
pass-pass-requires g c = admits
