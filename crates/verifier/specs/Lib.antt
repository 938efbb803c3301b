-- The checking cabinet.
pub mod Verifying
pub mod Operations
pub mod inner
