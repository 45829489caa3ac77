pub mod OpeningLemmas
pub mod RoundLemmas
pub mod ServedLemmas
pub mod StepLemmas
pub mod TurnLemmas
pub mod WorkerLemmas
use ServedLemmas.*
use StepLemmas.*
use WorkerLemmas.*
