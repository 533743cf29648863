mod Added
mod After
pub mod CellLaws
pub mod Chosen
pub mod CodeLaws
pub mod Columns
pub mod Copies
pub mod Counted
pub mod Executed
pub mod Folding
mod FoundLaws
pub mod Founds
pub mod FoundRuns
pub mod GroupShows
pub mod Inserted
pub mod LiveLaws
pub mod LiveRows
pub mod LiveValues
pub mod Loaded
pub mod Loading
pub mod MeasuredRuns
pub mod NewTables
pub mod OneStored
pub mod Opened
pub mod Replies
mod RunLaws
pub mod Saved
mod SetRows
pub mod Shows
pub mod Steps
pub mod Updated
