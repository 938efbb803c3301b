-- The laws that belong to no one function.
pub mod Indices
pub mod NodeLaws
pub mod PathLaws
pub mod ClimbLaws
