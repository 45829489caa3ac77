pub mod CallLemmas
pub mod CountLemmas
pub mod EachLemmas
pub mod HelpLemmas
pub mod KindLemmas
pub mod ToldLemmas
use CallLemmas.*
use CountLemmas.*
