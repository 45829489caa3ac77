-- The root passes on what its modules have and what stands in Prelude.
pub mod Prelude
pub mod Ascending
pub mod Bits
pub mod Hasher
pub mod Members
pub mod Pairs
pub mod Rows
unfoldable pub use Prelude.*
pub use Ascending.*
pub use Bits.*
pub use Hasher.*
pub use Members.*
pub use Pairs.*
pub use Rows.*
