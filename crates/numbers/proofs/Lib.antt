-- What the crate proves for others to cite: laws of numbers in words, of their order, of powers of two, and of limbs.
pub mod Comparison
pub mod LimbLaws
pub mod NumberLaws
pub mod PowerLaws
