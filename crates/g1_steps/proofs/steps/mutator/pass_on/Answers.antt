use Rattle.g1_steps.specs.{rules, refl, true, Some, Ok, Err, Helped}
use Rattle.g1_steps.proofs.steps.mutator.pass_on.Goals as goal

pub returns-in-Ok-clause-passed : goal.returns-in-Ok-clause-passed
returns-in-Ok-clause-passed g c = record { help = Some (Ok c.in-Ok.reply); made = search rules; answer = refl }

pub returns-in-Err-refine-clause-passed : goal.returns-in-Err-refine-clause-passed
returns-in-Err-refine-clause-passed g c = record {
  help = Some (Err c.in-Err-refine.field-0);
  made = search rules;
  answer = λ i. record { fill = Helped; refined = c.new-in-Err-refine.ensures i; short = true };
}
