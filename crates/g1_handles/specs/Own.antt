-- What a handle owns.
use Rattle.g1_handles.specs.Prelude.{Option, Some, None, Fml, feq, fsep, fex, Ptr, block_ptr}
use Rattle.g1_handles.specs.Prelude.{null_ptr, ghosts, box_owns, Racer, Sweeper, Known}
use denote.RattleType.{RattleType}
use Rattle.std.specs.declared.alloc.Global.{Global}
use Rattle.g1_core.specs.contracts.machinery.Core as core
use Rattle.g1_race.specs.contracts.race.Racer as racer
use Rattle.g1_race.specs.contracts.race.Sweeper as sweeper
use Rattle.g1_race.specs.contracts.paused.reading.Reader as reader
use Rattle.g1_handles.specs.declared.party.Party.{Party}
use Rattle.g1_handles.specs.contracts.party.Party as party
use Rattle.g1_handles.specs.contracts.party.RacerRole.TheImpl.{ghosts as racers}
use Rattle.g1_handles.specs.contracts.party.SweeperRole.TheImpl.{ghosts as sweepers}
use Rattle.g1_handles.specs.contracts.party.ReaderRole.TheImpl.{ghosts as readers}
use Rattle.g1_handles.specs.contracts.heap.racing_heap.RacingHeap as racing_heap

-- the value at the pointer, and the right to free its block
abbrev pub owns_boxed : (R : RattleType) → Global → Ptr → R.Denot → Fml
owns_boxed R a p x = box_owns (ghosts.dealloc_token a) R p x

-- nothing at null, else a value
abbrev pub holds : (R : RattleType) → Global → Ptr → Option R.Denot → Fml
holds R a null_ptr v = feq (Option R.Denot) v None
holds R a (block_ptr b o) v =
    fex R.Denot (λ x. fsep (feq (Option R.Denot) v (Some x)) (owns_boxed R a (block_ptr b o) x))

-- a racer, a sweeper, and a reader, as a party of a race
abbrev pub RacerParty : Type 0
RacerParty = Party Racer racers

abbrev pub SweeperParty : Type 0
SweeperParty = Party Sweeper sweepers

abbrev pub ReaderParty : Type 0
ReaderParty = Party Known readers

-- what each kind of handle holds: a core, a heap whose stores race, a racer, a sweeper, or a reader
abbrev pub core_row : RattleType
core_row = core.the_row

abbrev pub heap_row : RattleType
heap_row = racing_heap.the_row

abbrev pub racer_row : RattleType
racer_row = party.the_row racer.the_row racers

abbrev pub sweeper_row : RattleType
sweeper_row = party.the_row sweeper.the_row sweepers

abbrev pub reader_row : RattleType
reader_row = party.the_row reader.the_row readers
