-- One block of SHA-256 (FIPS 180-4), on numbers and lists of numbers.
pub mod Functions
pub mod Constants
pub mod Compression
