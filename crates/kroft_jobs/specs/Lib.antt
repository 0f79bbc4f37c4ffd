pub mod Words
pub mod Jobs
pub mod Writing
pub mod Asking
pub mod Lengths
pub mod Driving
pub mod Following
pub mod Walking
pub mod Grading
pub mod Sweeping
pub mod Answering
pub mod Forms
-- what explanations, grades and sheets say, for what stands above
pub use Rattle.run_reasons.specs.Runs
pub use Rattle.trace_sheets.specs.Grades
pub use Rattle.trace_sheets.specs.Handed
