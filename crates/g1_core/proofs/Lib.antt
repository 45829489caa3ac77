pub mod SetLemmas
pub mod TableLemmas
pub mod MovedLemmas
pub mod RunLemmas
pub mod SinceLemmas
pub mod AdoptionLemmas
pub mod QueryLemmas
pub mod MarkLemmas
pub mod RefinedLemmas
pub mod TurnLemmas
pub mod PartLemmas
pub mod StoreLemmas
pub mod DrainLemmas
pub mod RefineLemmas
pub mod ClearLemmas
pub mod Examples
pub mod RedirectLemmas
pub mod ChangeLemmas
pub mod WalkLemmas
pub mod ReferenceLemmas
pub mod DrainCardLemmas
pub mod LeastSlotLemmas
pub mod EnteringLemmas
pub mod OpeningLemmas
pub mod LengthLemmas
pub mod VerifyLemmas
pub mod CopyLemmas
pub mod Rules
use AdoptionLemmas.*
use LeastSlotLemmas.*
use MarkLemmas.*
use OpeningLemmas.*
use QueryLemmas.*
use LengthLemmas.*
use ReferenceLemmas.*
use RefineLemmas.*
use RefinedLemmas.*
use Rules.*
use StoreLemmas.*
use WalkLemmas.*
