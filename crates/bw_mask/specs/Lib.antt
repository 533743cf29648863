pub mod Masks
pub mod Truth
pub mod Truths
