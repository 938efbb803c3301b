-- What numbers written in bytes mean.
pub mod Bytes
