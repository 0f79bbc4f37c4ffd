pub mod Loops
pub mod Law
pub mod Sound
-- sets and lists, what is live, and that what is kept judges as the law does
pub mod Lists
pub mod ByteSets
pub mod Live
pub mod Requests
pub mod Stands
-- what is kept of units once a store is answered
pub mod Lanes
pub mod Cleared
pub mod Pieces
pub mod Opened
pub mod ShownSets
pub mod OnePart
pub mod Units
-- what a flat memory owes
pub mod FlatBytes
