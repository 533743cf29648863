pub mod Fronts
pub mod Parts
pub mod Pieces
pub mod Spellings
pub mod Tokens
