pub mod Lists
pub mod Keeps
pub mod Present
pub mod Fetching
pub mod FormsEvents
pub mod FormsWords
pub mod Choosing
pub mod Requesting
pub mod FormsProcessing
pub mod Tags
pub mod EachStep
pub mod Opening
pub mod Silent
pub mod Rooms
-- of the parts, for what stands above
pub use Rattle.cache_directory.proofs.Finds
