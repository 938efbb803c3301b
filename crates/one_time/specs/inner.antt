-- What only inner steps need.
pub mod Placing
