pub mod Words
pub mod Machine
pub mod Pump
pub mod Sound
pub mod Law
pub mod Examples
pub mod Whole
pub mod AnyMachine
-- the words of the cache and its parts, for what stands above
pub use Rattle.cache_law.specs.declared.Request
pub use Rattle.cache_law.specs.State
pub use Rattle.cache_law.specs.Causes
pub use Rattle.cache_law.specs.Lookups
pub use Rattle.cache_law.specs.Steps
pub use Rattle.cache_law.specs.Views
pub use Rattle.cache_law.specs.Shown
pub use Rattle.cache_law.specs.Forms
pub use Rattle.cache_law.specs.FormLaws
pub use Rattle.cache_law.specs.Frames
pub use Rattle.miss_registers.specs.Registers
pub use Rattle.miss_registers.specs.Views as RegisterViews
pub use Rattle.input_stack.specs.Stack
pub use Rattle.memory_banks.specs.Banks
pub use Rattle.memory_banks.specs.Memory
