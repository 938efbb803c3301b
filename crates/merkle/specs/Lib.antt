-- Hash trees over any leaves.
pub mod Nodes
