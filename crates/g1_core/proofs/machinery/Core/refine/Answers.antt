use Rattle.g1_core.specs.{refl, subst, ap, arith, IsPlaced, refine_entry}
use Rattle.g1_core.specs.Machine.{Machine}
use Rattle.g1_core.proofs.PartLemmas.{parts_placed}
use Rattle.g1_core.proofs.{idle_step, reads_grow, same_later, seen_sound, step_later}
use Rattle.g1_core.proofs.TurnLemmas.{turned_step}
use Rattle.g1_core.proofs.machinery.Core.refine.Goals as goal

pub returns-in_default-clause-step : goal.returns-in_default-clause-step
returns-in_default-clause-step c = λ caller. idle_step caller c.args.self.now.state.table c.idle.result c.idle.ensures.refined

pub returns-clause-step : goal.returns-clause-step
returns-clause-step c = λ caller. turned_step caller c.args.self.now.state c.turn_all.new.self.state c.cards.result.now c.in_ok-reply.reply
    (subst (λ (m : Machine). IsPlaced m.state) c.self.view_is (parts_placed c.self.inside.memory.heap c.self.inside.memory.sets.pairs c.self.inside.hot c.self.inside.memory.pending c.self.invariant.parts)) c.in_ok-reply.ensures.turned

pub returns-in_default-clause-later : goal.returns-in_default-clause-later
returns-in_default-clause-later c = same_later c.args.self.now c.args.self.now refl refl
    (seen_sound c.self.inside.memory.heap c.self.inside.memory.sets c.self.inside.hot c.self.inside.memory.pending c.self.invariant c.self.inside.config c.args.self.now c.self.view_is) (omega arith)

pub returns-clause-later : goal.returns-clause-later
returns-clause-later c = step_later c.args.self.now c.turn_all.new.self (refine_entry 0 c.in_ok-reply.reply) (returns-clause-step c 0)
    c.turn_all.ensures.settings c.layout-after.ensures.sound (reads_grow _ _ _ c.reads-reads.ensures.bound c.in_ok-reply.ensures.reads.reads)

pub returns-in_err-reply-clause-later : goal.returns-in_err-reply-clause-later
returns-in_err-reply-clause-later c = same_later c.args.self.now c.turn_all.new.self (ap (λ (m : Machine). m.state) c.in_err-reply.ensures.err) c.turn_all.ensures.settings
    (seen_sound c.self.inside.memory.heap c.self.inside.memory.sets c.self.inside.hot c.self.inside.memory.pending c.self.invariant c.self.inside.config c.args.self.now c.self.view_is) (omega (arith, ap (λ (m : Machine). m.reads) c.in_err-reply.ensures.err))
