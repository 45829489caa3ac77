-- A racer's handle whose party waits is as it was.
use Rattle.g1_handles.specs.{Some, refl, sym, ap, ◌∙◌, RacerParty}
use Rattle.g1_handles.proofs.PartyLemmas.{same_racer}
use Rattle.g1_handles.proofs.party.log.take_log.Goals as goal

pub returns-in-None-clause-refused : goal.returns-in-None-clause-refused
returns-in-None-clause-refused c =
    let had = rw c.in_ok-party.ensures.ok_part at c.value_mut.ensures.lent in
    (ap (λ (m : RacerParty). Some m) (same_racer _ c.in_ok-party.party.now refl refl refl refl) ∙ sym had, refl)
