-- what rows and a table say
pub mod Rows
pub mod Table
-- a step, and why there is none
pub mod Judge
pub mod Reasons
-- a bench's traffic: what a plan says, and the access of each number
pub mod Plan
pub mod Traffic
