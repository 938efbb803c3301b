-- What the crate proves for others to cite: laws of numbers in bytes and of the first bits of bytes.
pub mod ByteLaws
pub mod FirstBits
