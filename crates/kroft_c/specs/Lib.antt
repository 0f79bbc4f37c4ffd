-- what the library tells of itself, and of results
pub mod Version
pub mod Texts
