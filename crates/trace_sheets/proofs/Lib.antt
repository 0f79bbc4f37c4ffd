pub mod Along
pub mod Lines
pub mod Grading
pub mod Solving
pub mod Handing
