pub mod CountLaws
pub mod GroupLaws
pub mod ItemLaws
pub mod Merging
pub mod RankLaws
pub mod Ranks
pub mod RowLaws
