pub mod Distances
pub mod Known
pub mod SetFunctions
