-- what rows say
pub mod Rows
-- what the parts of a machine show
pub mod Parts
-- the machines that can be opened
pub mod Made
pub mod Opening
-- a handle, and what stands behind it
pub mod Open
pub mod Blocks
pub mod Behind
pub mod Calls
-- rounds
pub mod Rounds
pub mod Stepping
-- what the calls are told by, for what stands above
pub use Rattle.machine_core.specs.AnyMachine
