-- What the crate proves for others to cite: lines written into a slice, and what Write sheet answers.
pub mod LineLaws
pub mod WriteAnswer
