-- the law of a journal: its walk beside the machine's, whose banks serve where they are sent to
pub mod Rooms
pub mod FlatFrom
pub mod Standing
pub mod Stepping
pub mod Paying
pub mod Walking
-- what a cache side's journal tells, step by step, and that it is true of the banks
pub mod Recording
pub mod Telling
pub mod Bringing
pub mod Sides
-- what ports ask and are told
pub mod Parting
pub mod Sourcing
pub mod Conversing
pub mod OpenTags
pub mod Answering
-- what isn't so
pub mod CounterExamples
