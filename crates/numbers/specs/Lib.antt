-- What numbers written in words mean, their order, and the powers of two in them.
pub mod Number
pub mod Order
pub mod Powers
pub mod inner
