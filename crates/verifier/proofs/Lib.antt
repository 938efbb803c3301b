-- The laws that belong to no one function.
pub mod SameLaws
pub mod Answers
