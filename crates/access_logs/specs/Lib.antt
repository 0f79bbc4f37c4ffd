pub mod Accesses
pub mod Formats
pub mod Pages
pub mod Requests
pub mod Faults
pub mod Logs
pub mod Reads
