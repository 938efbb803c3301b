-- What the crate proves for others to cite: laws of digits and of lines, and of what is written.
pub mod HexLaws
pub mod Reading
pub mod Writing
