pub mod StoreLemmas
pub mod Found
pub mod Reasons
pub mod ThereLemmas
pub mod GiverLemmas
pub mod LoadLemmas
pub mod OpenLemmas
pub mod Logs
