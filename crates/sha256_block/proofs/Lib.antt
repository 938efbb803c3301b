-- The laws that belong to no one function.
pub mod Bits
pub mod Constants
mod Primes
pub mod Schedule
