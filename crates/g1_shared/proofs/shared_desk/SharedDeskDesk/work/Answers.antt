use Rattle.g1_shared.proofs.CountLemmas.{desk_worked, work_told}
use Rattle.g1_shared.proofs.shared_desk.SharedDeskDesk.work.Goals as goal

pub returns-clause-ok : goal.returns-clause-ok
returns-clause-ok g c = desk_worked g.M.Terms.terms c.args.self.now.shared.now c.args.self.now.caller c.work.new.caller c.work.result c.work.ensures

pub returns-clause-reply : goal.returns-clause-reply
returns-clause-reply g c = work_told g.M.Terms.terms c.args.self.now.shared.now c.args.self.now.caller c.work.new.caller c.work.result c.work.ensures
