-- What a sheet is read as, and what Read sheet answers; in `inner` what only inner steps need.
pub mod Sheet
pub mod Operations
pub mod inner
