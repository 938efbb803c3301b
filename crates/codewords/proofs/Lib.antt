-- The laws that belong to no one function.
pub mod CodewordLaws
pub mod OrderLaws
mod PlaceLaws
pub mod RankLaws
pub mod RowLaws
pub mod SearchLaws
pub mod UnrankAnswer
