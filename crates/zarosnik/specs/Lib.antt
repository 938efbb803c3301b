-- The contracts of the C interface.
pub mod Interface
