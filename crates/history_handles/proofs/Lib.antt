-- a mark that isn't 0
pub mod Nonzero
-- how C is told
pub mod Telling
pub mod Whys
