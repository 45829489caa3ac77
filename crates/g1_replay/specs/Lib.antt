-- The root passes on what its modules have and what stands in Prelude.
pub mod Prelude
pub mod Lines
pub mod Reading
pub mod Pieces
pub mod Output
pub mod Playing
pub mod Laws
pub mod Scripted
pub mod Drains
pub mod Crew
pub mod Race
pub mod CoreDrains
pub mod RaceJobs
pub mod Scripts
pub mod Parties
pub mod Played
pub mod Stepped
unfoldable pub use Prelude.*
pub use Lines.*
pub use Reading.*
pub use Pieces.*
pub use Output.*
pub use Playing.*
pub use Laws.*
pub use Scripted.*
pub use Drains.*
pub use Crew.*
pub use Race.*
pub use CoreDrains.*
pub use RaceJobs.*
pub use Scripts.*
pub use Parties.*
pub use Played.*
pub use Stepped.*
pub use declared.lines.line.Byte.{Byte}
pub use declared.lines.line.Part.{Part}
pub use declared.lines.line.Part.TheVariants.{Failed, More, Nothing}
pub use declared.lines.source.Commands.{Commands}
pub use declared.races.desk.Party.{Party}
pub use declared.races.desk.Party.TheVariants.{Racing, Sweeping}
pub use declared.races.parties.Returned.{Returned}
pub use declared.races.opening.OpenRace.{OpenRace}
pub use declared.runs.machinery.Machinery.{Machinery}
