pub mod CellLemmas
pub mod DirtyLemmas
pub mod EnteringLemmas
pub mod HoldLemmas
pub mod ListingLemmas
pub mod RowLemmas
pub mod TargetLemmas
use CellLemmas.*
use RowLemmas.*
