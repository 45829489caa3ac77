use Rattle.g1_core.specs.{arith, common_steps, refl}
use Rattle.g1_core.proofs.{of_a_mark, pending_step}
use Rattle.g1_core.proofs.machinery.Core.is_pending.Goals as goal

pub returns : goal.returns
returns c = record {
  did = record {
    told = record {
      pending = grind (arith, common_steps, of_a_mark);
      step = λ caller. pending_step caller c.args.self.now.state.table c.args.card _ c.requires (grind (arith, common_steps, of_a_mark));
    };
    machine = refl;
  };
}
