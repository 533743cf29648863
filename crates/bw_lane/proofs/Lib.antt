pub mod Bits
pub mod Codes
pub mod Fours
pub mod Joins
pub mod Kernels
pub mod Lanes
pub mod Sectionwise
pub mod Stored
