pub mod Marking
pub mod Ranks
pub mod Refining
pub mod Sorting
pub mod Tables
