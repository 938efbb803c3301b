-- The claims of documents 00 and 01, and of document 02 as far as it has landed, over the definitions of several crates: each a closed
-- statement, held by a
-- function of src/, which holds those of the crates below too.
pub mod Arrivals
pub mod Arrived
pub mod Bits
pub mod Demand3
pub mod Editions
pub mod Gate
pub mod Hashing
pub mod History
pub mod Issuing
pub mod Judged
pub mod Largest
pub mod OneTime
pub mod Orders
pub mod PowerCuts
pub mod Rows
pub mod Sheets
pub mod Trial
