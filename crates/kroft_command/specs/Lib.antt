pub mod Words
pub mod Tool
pub mod Told
pub mod Program
pub mod OneTry
