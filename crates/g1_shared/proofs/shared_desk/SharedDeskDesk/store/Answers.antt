use Rattle.g1_shared.proofs.HelpLemmas.{desk_stored}
use Rattle.g1_shared.proofs.shared_desk.SharedDeskDesk.store.Goals as goal

pub returns-clause-ok : goal.returns-clause-ok
returns-clause-ok g c = desk_stored g.M.Terms.terms.layout c.args.self.now.shared.now c.args.self.now.caller c.store.new.caller c.args.slot c.args.target c.store.result c.store.ensures.mark c.store.ensures.stored
