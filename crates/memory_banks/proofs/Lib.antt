pub mod Places
pub mod Sending
pub mod Behind
pub mod Spreading
