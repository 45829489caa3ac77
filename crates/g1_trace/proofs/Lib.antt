pub mod WordLemmas
pub mod PlaceLemmas
pub mod ListLemmas
pub mod PutLemmas
pub mod PlainLemmas
use ListLemmas.*
use PlainLemmas.*
use PutLemmas.*
use WordLemmas.*
