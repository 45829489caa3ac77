use Rattle.g1_history.specs.{subst, IsSound, IsCovered, table_in}
use Rattle.g1_history.specs.History.{History}
use Rattle.g1_history.proofs.{history_covered}
use Rattle.g1_history.proofs.book.Book+Kept.entries.Goals as goal

pub returns-clause-cover : goal.returns-clause-cover
returns-clause-cover c = subst (λ (h : History). IsCovered (table_in h)) c.self.view_is (history_covered _ c.self.invariant)

pub returns-clause-sound : goal.returns-clause-sound
returns-clause-sound c = subst (λ (h : History). IsSound h.machine.state) c.self.view_is c.layout-layout.ensures.sound
