pub mod Registers
pub mod Views
pub mod Whole
pub mod Making
pub mod Targets
