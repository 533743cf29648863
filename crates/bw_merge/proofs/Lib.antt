pub mod Counted
pub mod Ends
pub mod Grouped
pub mod Items
pub mod MergeExamples
pub mod RankExamples
pub mod Ranked
pub mod Sorting
