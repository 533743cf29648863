pub mod Answers
pub mod Command
pub mod Endings
pub mod Words
