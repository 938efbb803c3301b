-- The digest of SHA-256 (FIPS 180-4), and the running hash of document 01.
pub mod Digest
pub mod Running
