pub mod StoreCalls
pub mod SeatCalls
pub mod Closing
pub mod Ends
pub mod Logs
pub mod Pausing
pub mod AtPause
pub mod PauseWords
pub mod Gathering
pub mod Fresh
pub mod Placing
pub mod Telling
pub mod NextCards
pub mod CollectionSet
pub mod FlagWords
pub mod Opening
pub mod Words
pub mod Draining
pub mod PauseTable
pub mod PauseStores
pub mod ClearWords
pub mod LeastInto
pub mod Forgetting
pub mod Rules
pub mod Moving
pub mod MovedTable
pub mod Counting
pub mod SlotWords
pub mod Held
pub mod Freeing
use AtPause.*
use ClearWords.*
use CollectionSet.*
use Ends.*
use FlagWords.*
use Forgetting.*
use Held.*
use NextCards.*
use Rules.*
use PauseStores.*
use PauseTable.*
use PauseWords.*
use SeatCalls.*
use SlotWords.*
use StoreCalls.*
use Telling.*
use Closing.*
use Freeing.*
use Moving.*
use Placing.*
