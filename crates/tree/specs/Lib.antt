-- The tree over the leaf keys.
pub mod Tree
pub mod Operations
