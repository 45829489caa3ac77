-- The arrays have room for the lists.
use Rattle.g1_c.specs.{rules, length, FitIn, visit_so}
use Rattle.g1_c.proofs.one_core.pause.g1_drain.Goals as goal

pub write_list-requires : goal.write_list-requires
write_list-requires c =
    let fits = visit_so _ (FitIn (length c.args.refined.now) c.in-Ok-Short.list) c.args.handle.now.value c.visit.new.handle.value _ (λ p q h. search rules) c.in-Ok-Short.ensures in
    search (rules, fits)

pub write_list-requires-in-Ok-Cards : goal.write_list-requires-in-Ok-Cards
write_list-requires-in-Ok-Cards c =
    let fits = visit_so _ (FitIn (length c.args.cards.now) c.in-Ok-Cards.members) c.args.handle.now.value c.visit.new.handle.value _ (λ p q h. search rules) c.in-Ok-Cards.ensures in
    search (rules, fits)

pub write_list-requires-in-Ok-Cards-2 : goal.write_list-requires-in-Ok-Cards-2
write_list-requires-in-Ok-Cards-2 c =
    let fits = visit_so _ (FitIn (length c.args.refined.now) c.in-Ok-Cards.list) c.args.handle.now.value c.visit.new.handle.value _ (λ p q h. search rules) c.in-Ok-Cards.ensures in
    search (rules, fits)
