pub mod Begins
pub mod Parts
pub mod Findings
pub mod BlockReads
pub mod Taking
pub mod Calls
pub mod Views
pub mod Numbers
