pub mod Bits
pub mod Counts
pub mod Nexts
pub mod Pairs
pub mod Places
pub mod Tables
pub mod Views
pub mod Within
