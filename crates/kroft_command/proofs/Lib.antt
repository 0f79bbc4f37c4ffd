pub mod Answering
pub mod Performed
pub mod Shapes
pub mod Timings
