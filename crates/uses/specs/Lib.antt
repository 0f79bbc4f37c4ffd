pub mod Judged
pub mod Lookups
