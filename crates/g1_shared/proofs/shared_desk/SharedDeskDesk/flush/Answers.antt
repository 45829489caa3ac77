use Rattle.g1_shared.proofs.HelpLemmas.{desk_flushed}
use Rattle.g1_shared.proofs.shared_desk.SharedDeskDesk.flush.Goals as goal

pub returns-clause-ok : goal.returns-clause-ok
returns-clause-ok g c = desk_flushed g.M.Terms.terms.layout c.args.self.now.shared.now c.args.self.now.caller c.flush.new.caller c.flush.result c.flush.ensures.mark c.flush.ensures.flushed
