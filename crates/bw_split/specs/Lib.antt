pub mod Ordinary
pub mod Prefixes
pub mod Splitters
pub mod Splitting
pub mod Stretches
