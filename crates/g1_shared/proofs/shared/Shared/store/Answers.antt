-- The kind is that of the store's own call, and the caller's mutator is the one that was lent.
use Rattle.g1_shared.specs.{Some, ap, sym, subst, refl, ◌∙◌, Line, CallerState, StoresBy}
use Rattle.std.specs.Option.{option_copied_mut}
use Rattle.g1_shared.proofs.HelpLemmas.{lent_caller, store_as}
use Rattle.g1_shared.proofs.KindLemmas.{store_kind}
use Rattle.g1_shared.proofs.shared.Shared.store.Goals as goal

pub returns-clause-kind : goal.returns-clause-kind
returns-clause-kind g c = store_kind _ _ _ _ _ _ _ _ (λ ms h. h.1.1) c.store.ensures.stored

pub returns-clause-stored : goal.returns-clause-stored
returns-clause-stored g c =
    let layout = g.M.Terms.terms.layout in
    let caller = c.caller.inside in
    let now = c.store.new.calls.counts.now in
    let P : Line → CallerState → Type 0 = λ l s. StoresBy layout l s c.args.slot c.args.target c.store.result (record { counts = now; mutator = Some c.store.new.self; taker = caller.taker }) in
    subst (λ l. P l c.args.caller.now) c.self.view_is (lent_caller caller.counts caller.taker c.unwrap-mutator.result.now caller.mutator c.args.caller.now (sym (ap option_copied_mut c.unwrap-mutator.ensures) ∙ c.as_mut.ensures.value) c.caller.view_is (P c.self.inside.line)
    (record { taker = refl; step = store_as _ _ c.self.inside.line _ _ caller.counts now c.unwrap-mutator.result.now c.store.new.self c.args.slot c.args.target _ c.store.result (λ ms h. h.1) c.store.ensures }))
