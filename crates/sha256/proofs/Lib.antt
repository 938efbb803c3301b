-- The laws that belong to no one function.
pub mod Blocks
pub mod DigestBytes
pub mod Example
pub mod Extension
pub mod Joined
pub mod Padding
