pub mod Fields
pub mod Lines
pub mod Answers
pub mod Notes
pub mod Refusals
pub mod Histories
pub mod Values
pub mod Shrinking
