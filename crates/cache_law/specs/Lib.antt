pub mod State
pub mod Reads
pub mod Causes
pub mod Steps
pub mod Forms
pub mod Views
pub mod Shown
pub mod Sound
pub mod FormLaws
pub mod Begun
pub mod Miss
pub mod Requests
pub mod Counts
pub mod Lookups
pub mod UnitForms
-- the parts' own words, for what stands above
pub use Rattle.cache_directory.specs.Frames
pub use Rattle.cache_directory.specs.declared.Cell
