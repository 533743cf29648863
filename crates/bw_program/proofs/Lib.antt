pub mod Following
pub mod Requests
pub mod Walks
pub mod WordForms
