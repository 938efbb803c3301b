-- The laws that belong to no one function.
pub mod Answer
pub mod CountLaws
pub mod NextCell
pub mod Room
pub mod RowByRow
pub mod TableLaws
pub mod TableOperation
