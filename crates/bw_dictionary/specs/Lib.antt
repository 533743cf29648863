pub mod Adding
pub mod Finding
pub mod Merging
pub mod Moving
pub mod Ranking
