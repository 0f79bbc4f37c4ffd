-- what is counted
pub mod Cuts
pub mod Told
-- what was found of a recorded run, and of a history
pub mod Items
pub mod ToldBytes
