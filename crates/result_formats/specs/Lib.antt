-- what is counted
pub mod Accesses
pub mod Counts
pub mod Series
pub mod Details
-- what was found of a recorded run, and of a history
pub mod Origins
pub mod Explanations
pub mod Histories
