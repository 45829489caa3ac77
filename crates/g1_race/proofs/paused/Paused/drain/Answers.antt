use Rattle.std.proofs.Common.{arith}
use Rattle.std.proofs.lemmas.Grind.{common_steps}
use Rattle.g1_race.specs.{ℕ, List, sym, ◌∙◌, subst, drained, marked_cards, IsStep, IsStrictlyIncreasing, IsExactAtPause, Refines, DrainsAt, Pause, table_at}
use Rattle.g1_core.specs.declared.reply.Drained.TheVariants.{Cards}
use Rattle.g1_race.proofs.{drain_step, exact_is}
use Rattle.g1_race.proofs.paused.Paused.drain.Goals as goal

pub returns-clause-did : goal.returns-clause-did
returns-clause-did g c =
    let old = c.args.self.now in
    let done = c.refine_all.new.self in
    let marked = marked_cards old.shape old.words in
    let found = c.gather.new.cards.items in
    let refines : Refines old done = subst (λ (h : Pause). Refines h done) (c.set_len.ensures.same ∙ c.dirty_cards.ensures.same) c.refine_all.ensures.did in
    let refined = c.of-refined.ensures ∙ c.in_ok-refined.ensures.cards in
    let members = c.gather.ensures.members in
    subst (DrainsAt old c.args.region (Cards c.of-cards.result c.of-refined.result)) (sym c.gather.ensures.same) (record {
      refines = refines;
      whole = tt;
      few = grind (arith, common_steps);
      ascending = subst (λ (cs : List ℕ). IsStrictlyIncreasing cs) (sym refined) refines.refined.ascending;
      step = λ caller. subst (λ (e : List ℕ × List ℕ). IsStep (table_at old) (drained caller c.args.region e.0 e.1) (table_at done)) (λ i. (sym c.of-cards.ensures i, sym refined i)) (drain_step (table_at old) (table_at done) caller c.args.region found marked c.requires refines.refined members);
      exact = subst (λ (cs : List ℕ). IsExactAtPause (table_at old) c.args.region cs) (sym c.of-cards.ensures) (exact_is (table_at old) (table_at done) c.args.region found marked refines.refined members);
    })
