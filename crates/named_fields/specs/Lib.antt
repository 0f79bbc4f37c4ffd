pub mod Texts
pub mod Formats
