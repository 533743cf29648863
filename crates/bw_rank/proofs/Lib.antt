pub mod Carried
pub mod Counting
pub mod Marked
pub mod Placed
pub mod Rankings
pub mod Refined
pub mod Times
pub mod Whole
