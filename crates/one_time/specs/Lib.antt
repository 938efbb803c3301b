-- The one-time signatures of a leaf.
pub mod Operations
pub mod inner
