pub mod Turns
pub mod Marks
pub mod Scales
pub mod Sweeps
pub mod Losses
pub mod Lives
pub mod Timelines
