-- The caller's mutator is the one that was lent.
use Rattle.g1_shared.specs.{Some, ap, sym, subst, refl, ◌∙◌, Line, CallerState, FlushesBy}
use Rattle.std.specs.Option.{option_copied_mut}
use Rattle.g1_shared.proofs.HelpLemmas.{flush_as, lent_caller}
use Rattle.g1_shared.proofs.shared.Shared.flush.Goals as goal

pub returns-clause-flushed : goal.returns-clause-flushed
returns-clause-flushed g c =
    let layout = g.M.Terms.terms.layout in
    let caller = c.caller.inside in
    let now = c.flush.new.calls.counts.now in
    let P : Line → CallerState → Type 0 = λ l s. FlushesBy layout l s c.flush.result (record { counts = now; mutator = Some c.flush.new.self; taker = caller.taker }) in
    subst (λ l. P l c.args.caller.now) c.self.view_is (lent_caller caller.counts caller.taker c.unwrap-mutator.result.now caller.mutator c.args.caller.now (sym (ap option_copied_mut c.unwrap-mutator.ensures) ∙ c.as_mut.ensures.value) c.caller.view_is (P c.self.inside.line)
    (record { taker = refl; step = flush_as _ _ c.self.inside.line _ _ caller.counts now c.unwrap-mutator.result.now c.flush.new.self c.flush.result (λ ms h. h.1) (λ e i. (e i).counts.now) c.flush.ensures }))
