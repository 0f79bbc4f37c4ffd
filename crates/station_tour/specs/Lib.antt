pub mod Texts
pub mod Faults
pub mod Asked
pub mod Trials
pub mod Soaks
pub mod Shown
pub mod Statuses
