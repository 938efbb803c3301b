-- What is signed of an order.
pub mod Message
