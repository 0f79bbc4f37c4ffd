-- why an event was not taken
pub mod StepFaults
-- the judge of the atomic law
pub mod AtomicJudge
pub mod Found
-- events, wherever their bytes lie
pub mod Plain
-- what is seen of a history
pub mod Within
pub mod Timely
-- what is counted of it
pub mod Alone
