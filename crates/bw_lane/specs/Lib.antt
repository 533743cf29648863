pub mod Marking
pub mod Rows
pub mod Sections
