pub mod FromForms
pub mod Requests
pub mod Walking
pub mod Weighing
pub mod Whole
pub mod Driving
-- of the cache and its parts, for what stands above
pub use Rattle.miss_registers.proofs.Tags
pub use Rattle.memory_banks.proofs.Places
pub use Rattle.memory_banks.proofs.Sending
pub use Rattle.cache_law.proofs.Finds
pub use Rattle.cache_law.proofs.FormsEvents
pub use Rattle.cache_unit.proofs.Numbers
