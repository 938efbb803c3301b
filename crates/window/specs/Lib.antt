-- The window over the leaves.
pub mod History
pub mod Window
