pub mod AscendingLemmas
pub mod BitLemmas
pub mod LowestBit
pub mod BoundLemmas
pub mod ListLemmas
pub mod CardLemmas
pub mod PairLemmas
pub mod RoomLemmas
pub mod RowLemmas
pub mod SetLemmas
pub mod TotalLemmas
use PairLemmas.*
use RoomLemmas.*
use RowLemmas.*
use SetLemmas.*
