pub mod Words
pub mod Recorded
