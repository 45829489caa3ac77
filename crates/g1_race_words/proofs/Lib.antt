pub mod Plain
pub mod Crossing
pub mod PairBits
pub mod Places
pub mod Tallies
pub mod Cover
pub mod CoverStores
pub mod CoverSweeps
pub mod Unchanged
pub mod Balance
pub mod Keeping
pub mod Flags
pub mod Recording
pub mod Raising
pub mod Writing
pub mod Marking
pub mod Reading
pub mod Splitting
pub mod FlagsKept
pub mod Listing
pub mod AtBeginning
pub mod Going
pub mod GoingAnew
pub mod Blanks
pub mod Finding
pub mod Calls
pub mod SeatCalls
pub mod StepKinds
pub mod Together
use AtBeginning.*
use Blanks.*
use Calls.*
use SeatCalls.*
