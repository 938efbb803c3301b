-- Bytes as upper-case hex; in `inner` what only inner steps need.
pub mod Hex
pub mod inner
