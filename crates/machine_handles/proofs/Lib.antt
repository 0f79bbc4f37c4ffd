-- a mark that isn't 0
pub mod Nonzero
-- how C is told of a fault
pub mod Telling
-- rows that say requests
pub mod Requests
