-- The root passes on what its modules have and what stands in Prelude.
pub mod Prelude
pub mod Cells
pub mod Entering
pub mod Listing
pub mod Stored
pub mod Targets
pub use Prelude.*
pub use Cells.*
pub use Entering.*
pub use Listing.*
pub use Stored.*
pub use Targets.*
pub use declared.mark.Mark.{Mark}
pub use declared.mark.Mark.TheVariants.{Clean, Dirty}
