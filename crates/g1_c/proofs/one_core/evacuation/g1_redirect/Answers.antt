-- The array has room for the list.
use Rattle.g1_c.specs.{rules, length, FitIn, visit_so}
use Rattle.g1_c.proofs.one_core.evacuation.g1_redirect.Goals as goal

pub write_list-requires : goal.write_list-requires
write_list-requires c =
    let fits = visit_so _ (FitIn (length c.args.refined.now) c.in-Ok-Short.list) c.args.handle.now.value c.visit.new.handle.value _ (λ p q h. search rules) c.in-Ok-Short.ensures in
    search (rules, fits)

pub write_list-requires-in-Ok-Moved : goal.write_list-requires-in-Ok-Moved
write_list-requires-in-Ok-Moved c =
    let fits = visit_so _ (FitIn (length c.args.refined.now) c.in-Ok-Moved.list) c.args.handle.now.value c.visit.new.handle.value _ (λ p q h. search rules) c.in-Ok-Moved.ensures in
    search (rules, fits)
