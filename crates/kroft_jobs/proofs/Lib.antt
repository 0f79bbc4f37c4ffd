pub mod Measured
pub mod Driving
pub mod Sweeping
pub mod Owed
pub mod Sheets
pub mod Followed
pub mod Walked
