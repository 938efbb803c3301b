-- The places that a reader passes; in `inner` what only inner steps need.
pub mod Places
pub mod inner
