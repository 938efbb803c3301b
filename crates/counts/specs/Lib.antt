-- How many codewords there are, and the table of the counts.
pub mod Counts
pub mod Table
pub mod Operations
