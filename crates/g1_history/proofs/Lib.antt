pub mod HistoryLemmas
pub mod RoomLemmas
use HistoryLemmas.*
