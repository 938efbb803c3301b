-- What only inner steps need: a line read and written piece by piece.
pub mod Digits
