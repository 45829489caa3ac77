use Rattle.g1_core.proofs.{seen_sound}
use Rattle.g1_core.proofs.machinery.Core.layout.Goals as goal

pub returns-clause-sound : goal.returns-clause-sound
returns-clause-sound c = seen_sound c.self.inside.memory.heap c.self.inside.memory.sets c.self.inside.hot c.self.inside.memory.pending c.self.invariant c.self.inside.config c.args.self.now c.self.view_is
