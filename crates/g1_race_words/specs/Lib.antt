-- The root passes on what its modules have and what stands in Prelude.
pub mod Prelude
pub mod Begin
pub mod Rule
pub mod Steps
pub mod Seats
pub mod StepKinds
pub mod Together
pub use Prelude.*
pub use Begin.*
pub use Rule.*
pub use Steps.*
pub use Seats.*
pub use StepKinds.*
pub use Together.*
pub use declared.view.RaceShape.{RaceShape}
pub use declared.view.View.{View}
