-- rows of operations and of bytes
pub mod Rows
-- a handle, and what stands behind it
pub mod Mark
pub mod Blocks
pub mod Behind
pub mod Opening
pub mod Status
pub mod Calls
pub mod Why
pub mod Coverage
