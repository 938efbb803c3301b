-- What the crate proves for others to cite: laws of lists and their parts, of lists that are filled, of values joined, of pairs of members, of lists without
-- repetition,
-- of tests joined and of numbers compared.
pub mod DistinctLaws
pub mod Fill
pub mod Joins
pub mod Lists
pub mod Numbers
pub mod Pairs
pub mod Tests
