-- journals, and when they are true of the banks
pub mod Journal
pub mod Side
-- their parts by port
pub mod Parts
pub mod Conversation
pub mod Paid
-- what follows, and worked examples
pub mod Law
pub mod Examples
