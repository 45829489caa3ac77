-- There are no more members than cards.
use Rattle.g1_handles.specs.{ℕ, subst, TellsMembers}
use Rattle.g1_handles.proofs.{few_members, fits_words}
use Rattle.g1_handles.proofs.SetLemmas.{lists_so}
use Rattle.g1_handles.proofs.one_core.members.members_in.Goals as goal

pub list_of-requires : goal.list_of-requires
list_of-requires c =
    let sound = c.layout-layout.ensures.sound in
    fits_words c.args.core.now.state c.in-Ok.members sound (few_members c.args.core.now.state c.in_ok-region.region c.in-Ok.members sound c.in-Ok.ensures.did.told.members)

pub returns-clause-listed : goal.returns-clause-listed
returns-clause-listed c =
    let at = rw c.in_ok-region.ensures.ok_part at c.region.ensures in
    lists_so (TellsMembers c.args.core.now.state.table c.args.region) c.in-Ok.members c.args.room c.list_of.result
    (subst (λ (region : ℕ). TellsMembers c.args.core.now.state.table region c.in-Ok.members) at.1 c.in-Ok.ensures.did.told)
    c.list_of.ensures
