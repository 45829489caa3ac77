pub mod EndLemmas
pub mod PartLemmas
pub mod PlayingLemmas
pub mod ReadingLemmas
pub mod ToldLemmas
pub mod AnswerLemmas
pub mod DrainLemmas
pub mod RanLemmas
pub mod ScriptedLemmas
pub mod CrewScriptLemmas
pub mod SweptLemmas
pub mod PlacedLemmas
pub mod StoreLemmas
pub mod RanRaceLemmas
pub mod LeftLemmas
pub mod CoreDrainLemmas
pub mod RaceLemmas
pub mod JobLemmas
pub mod PlayedLemmas
pub mod SteppedLemmas
use AnswerLemmas.*
use CrewScriptLemmas.*
use PartLemmas.*
use PlacedLemmas.*
use PlayingLemmas.*
use RaceLemmas.*
use RanLemmas.*
use ScriptedLemmas.*
use SteppedLemmas.*
