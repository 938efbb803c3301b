-- The limits of an order's text, and the parts of a signature.
pub mod Signature
