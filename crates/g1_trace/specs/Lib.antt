-- The root passes on what its modules have and what stands in Prelude.
pub mod Prelude
pub mod Words
pub mod Places
pub mod Grammar
pub mod Plain
pub mod Trace
pub mod Bytes
pub mod Text
pub use Prelude.*
pub use Words.*
pub use Places.*
unfoldable pub use Grammar.*
pub use Plain.*
pub use Trace.*
pub use Bytes.*
pub use Text.*
pub use declared.command.Command.TheVariants.{Store}
pub use declared.dialect.Dialect.{Dialect}
pub use declared.fault.TraceFault.{TraceFault}
pub use declared.fault.TraceFault.TheVariants.{NoCard, NoMutator, NoRegion, NoSlot}
