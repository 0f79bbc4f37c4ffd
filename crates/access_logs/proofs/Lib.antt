pub mod Asked
pub mod Logs
pub mod Kept
