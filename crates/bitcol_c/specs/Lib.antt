pub mod Files
pub mod Following
pub mod Handles
pub mod Statuses
