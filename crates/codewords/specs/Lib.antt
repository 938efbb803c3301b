-- Codewords (document 01: rows of lengths) and their numbers.
pub mod Codeword
pub mod Operations
pub mod inner
