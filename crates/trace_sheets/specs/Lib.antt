pub mod Sheets
pub mod Ends
pub mod Forms
pub mod Grades
pub mod Solutions
pub mod Handed
