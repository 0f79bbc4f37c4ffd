pub mod Reading
pub mod Comparing
pub mod Asking
pub mod Telling
