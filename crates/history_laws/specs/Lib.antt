pub mod Laws
pub mod Told
pub mod Late
pub mod Since
pub mod Cuts
