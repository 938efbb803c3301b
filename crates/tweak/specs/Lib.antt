-- Addresses and the tweaked hash.
pub mod Tweak
