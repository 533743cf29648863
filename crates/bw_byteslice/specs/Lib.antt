pub mod BitPlanes
pub mod Slices
pub mod Storing
