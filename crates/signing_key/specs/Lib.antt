-- A key, the counter of its leaves, and Reserve.
pub mod Counter
pub mod Key
pub mod Operations
