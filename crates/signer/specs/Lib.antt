-- Sign.
pub mod Signing
pub mod Operations
pub mod inner
