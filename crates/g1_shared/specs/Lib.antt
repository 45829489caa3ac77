-- The root passes on what its modules have and what stands in Prelude.
pub mod Prelude
pub mod Answers
pub mod Callers
pub mod Counts
pub mod Did
pub use Prelude.*
pub use Answers.*
pub use Callers.*
pub use Counts.*
pub use Did.*
