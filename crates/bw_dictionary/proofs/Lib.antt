pub mod Added
pub mod Below
pub mod Encoded
pub mod Moved
pub mod Union
