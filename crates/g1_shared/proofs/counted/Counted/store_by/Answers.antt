use Rattle.g1_core.specs.Calls.{store_entry}
use Rattle.g1_shared.specs.{rules, ap, sym, ◌∙◌, CallerCounts}
use Rattle.g1_shared.proofs.{entry_counted}
use Rattle.g1_shared.proofs.KindLemmas.{kind_at}
use Rattle.g1_shared.proofs.counted.Counted.store_by.Goals as goal

pub invariant_of-self-2 : goal.invariant_of-self-2
invariant_of-self-2 g c = entry_counted _ g.M.Terms.terms _ _ _ _ _ _ _ _ _ _ c.self.invariant c.in_ok-reply.ensures.call.made.entered c.raise.ensures.total c.raise-2.ensures.total c.enter.ensures.records (λ i. store_entry ((c.counts.invariant.7 ∙ ap (λ (t : CallerCounts). t.number) c.counts.view_is ∙ sym c.number.ensures) i) c.args.slot (c.again.ensures i) c.in_ok-reply.reply)

pub returns-clause-lent : goal.returns-clause-lent
returns-clause-lent g c = (search rules, kind_at _ g.M.Terms.terms _ c.self.inside.book _ _ _ c.self.invariant.led c.in_ok-reply.ensures.call.made.did.kind)
