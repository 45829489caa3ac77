use Rattle.g1_log.proofs.Once.{law}
use Rattle.g1_log.proofs.laws.each_parcel_stands_once.Goals as goal

pub returns : goal.returns
returns c = law
