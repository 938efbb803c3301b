-- What a profile is, and its checks.
pub mod Checks
