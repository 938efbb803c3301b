-- What the listing program reads and prints.
pub mod Input
pub mod Listing
