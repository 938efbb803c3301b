-- Values joined, and lists without repetition.
pub mod Distinct
pub mod Joined
