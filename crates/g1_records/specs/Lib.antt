pub mod Views
pub mod Records
