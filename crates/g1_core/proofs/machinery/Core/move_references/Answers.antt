use Rattle.g1_core.specs.{◌∙◌, arith}
use Rattle.g1_core.proofs.RedirectLemmas.{IsMovedTo, members_core, members_read, reference_slots, reference_places, few_references, moved_at}
use Rattle.g1_core.proofs.{err_holds}
use Rattle.g1_core.proofs.machinery.Core.move_references.Goals as goal

pub returns-in_err-changes-clause-err : goal.returns-in_err-changes-clause-err
returns-in_err-changes-clause-err c = err_holds c.from_residual.result (members_read c.self.inside.memory.heap c.self.inside.memory.sets c.self.inside.hot c.self.inside.memory.pending c.self.inside.config c.args.self.now c.self.invariant c.self.view_is c.args.from c.args.to c.requires.to c.requires.apart c.requires.nothing c.changes_into.new.heap c.in_err-changes.ensures.tied c.in_err-changes.ensures.heap c.self.inside.memory.sets (λ i. c.self.inside.memory.sets))

pub invariant_of-self-in_err-record_many : goal.invariant_of-self-in_err-record_many
invariant_of-self-in_err-record_many c = members_core c.self.inside.memory.heap c.self.inside.memory.sets c.self.inside.hot c.self.inside.memory.pending c.self.inside.config c.args.self.now c.self.invariant c.self.view_is c.args.from c.args.to c.requires.to c.requires.apart c.requires.nothing c.changes_into.new.heap c.in_ok-changes.ensures.tied c.in_ok-changes.ensures.heap c.record_many.new.self c.in_err-record_many.ensures.err

pub returns-in_err-record_many-clause-err : goal.returns-in_err-record_many-clause-err
returns-in_err-record_many-clause-err c = err_holds c.from_residual-in_err-record_many.result (members_read c.self.inside.memory.heap c.self.inside.memory.sets c.self.inside.hot c.self.inside.memory.pending c.self.inside.config c.args.self.now c.self.invariant c.self.view_is c.args.from c.args.to c.requires.to c.requires.apart c.requires.nothing c.changes_into.new.heap c.in_ok-changes.ensures.tied c.in_ok-changes.ensures.heap c.record_many.new.self c.in_err-record_many.ensures.err)

pub make_changes-requires-clause-slots : goal.make_changes-requires-clause-slots
make_changes-requires-clause-slots c = reference_slots c.self.inside.memory.heap c.self.inside.memory.sets c.self.inside.hot c.self.inside.memory.pending c.self.inside.config c.args.self.now c.self.invariant c.self.view_is c.args.from c.args.to c.requires.to c.requires.apart c.requires.nothing c.changes_into.new.heap c.in_ok-changes.ensures.tied c.in_ok-changes.ensures.heap c.as_slice-2.result.now (c.as_slice-2.ensures.value ∙ c.in_ok-changes.ensures.references)

pub make_changes-requires-clause-places : goal.make_changes-requires-clause-places
make_changes-requires-clause-places c = reference_places c.self.inside.memory.heap c.self.inside.memory.sets c.self.inside.hot c.self.inside.memory.pending c.self.inside.config c.args.self.now c.self.invariant c.self.view_is c.args.from c.args.to c.requires.to c.requires.apart c.requires.nothing c.changes_into.new.heap c.in_ok-changes.ensures.tied c.in_ok-changes.ensures.heap c.as_slice-2.result.now (c.as_slice-2.ensures.value ∙ c.in_ok-changes.ensures.references)

pub overflow_cast-result : goal.overflow_cast-result
overflow_cast-result c = omega (arith, few_references c.self.inside.memory.heap c.self.inside.memory.sets c.self.inside.hot c.self.inside.memory.pending c.self.inside.config c.args.self.now c.self.invariant c.self.view_is c.args.from c.args.to c.requires.to c.requires.apart c.requires.nothing c.changes_into.new.heap c.in_ok-changes.ensures.tied c.in_ok-changes.ensures.heap c.in_ok-changes.changes.references.items c.in_ok-changes.ensures.references, c.len.ensures, c.in_ok-changes.changes.references.ok.0)

-- what is left once all are moved
moved : (c : goal.After-drop-changes-3) → IsMovedTo c.args.self.now c.args.from c.args.to c.len.result c.make_changes.new.heap c.clear.new.self c.self.inside.hot c.self.inside.memory.pending c.self.inside.config
moved c =
    moved_at c.self.inside.memory.heap c.self.inside.memory.sets c.self.inside.hot c.self.inside.memory.pending c.self.inside.config c.args.self.now c.self.invariant c.self.view_is c.args.from c.args.to c.requires.to c.requires.apart c.requires.nothing c.changes_into.new.heap c.in_ok-changes.ensures.tied c.in_ok-changes.ensures.heap
    c.in_ok-changes.changes.references.items c.in_ok-changes.ensures.references c.in_ok-changes.changes.cards.items c.as_slice.result.now c.as_slice-2.result.now c.make_changes.new.heap c.record_many.new.self c.clear.new.self c.len.result
    c.in_ok-changes.ensures.cards c.as_slice.ensures.value c.in_ok-record_many.ensures.layout c.in_ok-record_many.ensures.pairs c.clear.ensures.layout c.clear.ensures.pairs c.as_slice-2.ensures.value c.make_changes.ensures (c.len.ensures ∙ c.in_ok-changes.changes.references.ok.0)

pub invariant_of-self-2 : goal.invariant_of-self-2
invariant_of-self-2 c = (moved c).core

pub returns : goal.returns
returns c = record { count = (moved c).counted; moved = (moved c).moved; err = tt }
