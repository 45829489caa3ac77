use Rattle.std.specs.Prelude.{◌≡◌}
use Rattle.g1_core.specs.{◌∙◌, ℕ, rules, ap, subst, sym, Cells, reads_after, target_of, table_from, state_from, machine_from, IsStep, target_entry}
use Rattle.g1_core.specs.Machine.{Machine, Table}
use Rattle.g1_core.proofs.{target_step, reads_grow, same_later, seen_sound}
use Rattle.g1_core.proofs.machinery.Core.target.Goals as goal
use Rattle.g1_core.proofs.machinery.Core.target.Goals.{After-get}

-- it is what the table has, whoever asks
refers : (c : After-get) → c.get.result ≡ target_of c.args.self.now.state.table c.args.slot
refers c = c.get.ensures.target ∙ ap (λ (m : Machine). target_of m.state.table c.args.slot) c.self.view_is

told_step : (c : After-get) (caller : ℕ) → IsStep c.args.self.now.state.table (target_entry caller c.args.slot c.get.result) c.args.self.now.state.table
told_step c caller = target_step caller c.args.self.now.state.table c.args.slot c.get.result c.requires (refers c)

pub returns-clause-did : goal.returns-clause-did
returns-clause-did c = record { told = record { refers = refers c; within = search rules; step = told_step c }; machine = search rules }

pub returns-clause-step : goal.returns-clause-step
returns-clause-step c = λ caller.
    let same : table_from c.get.new.self c.self.inside.memory.sets.pairs ≡ c.args.self.now.state.table = ap (λ (h : Cells). table_from h c.self.inside.memory.sets.pairs) c.get.ensures.reads ∙ ap (λ (m : Machine). m.state.table) c.self.view_is in
    subst (λ (t : Table). IsStep c.args.self.now.state.table (target_entry caller c.args.slot c.get.result) t) (sym same) (told_step c caller)

pub returns-clause-later : goal.returns-clause-later
returns-clause-later c = same_later c.args.self.now (machine_from c.get.new.self c.self.inside.memory.sets.pairs c.self.inside.hot c.self.inside.config)
    (ap (λ (h : Cells). state_from h c.self.inside.memory.sets.pairs c.self.inside.hot) c.get.ensures.reads ∙ ap (λ (m : Machine). m.state) c.self.view_is) (ap (λ (m : Machine). m.settings) c.self.view_is)
    (seen_sound c.self.inside.memory.heap c.self.inside.memory.sets c.self.inside.hot c.self.inside.memory.pending c.self.invariant c.self.inside.config c.args.self.now c.self.view_is)
    (reads_grow c.args.self.now.reads 1 c.get.new.self.reads c.reads-reads.ensures.bound (ap (λ (h : Cells). h.reads) c.get.ensures.reads ∙ ap (λ (m : Machine). reads_after m.reads 1) c.self.view_is))
