pub mod Sweep
pub mod Lacking
pub mod Rounds
pub mod Threads
-- the machine's words, for what stands above
pub use Rattle.machine_core.specs.Words
pub use Rattle.machine_core.specs.Machine
pub use Rattle.machine_core.specs.Whole
