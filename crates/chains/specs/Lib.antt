-- Hash chains, leaf keys, and the values that a one-time signature shows.
pub mod Chains
pub mod Leaves
