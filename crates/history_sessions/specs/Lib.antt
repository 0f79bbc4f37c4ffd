-- events and laws
pub mod Events
pub mod Atomic
pub mod History
pub mod Faults
-- a history with what is open and seen
pub mod Session
pub mod Reasons
-- what is kept of it
pub mod Kept
-- what is counted of it
pub mod Coverage
pub mod Choices
pub mod Examples
-- for those above
pub mod Words
