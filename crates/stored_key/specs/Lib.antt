-- The stored key: its frame, Write key and Read key, and what they are to each other.
pub mod KeyFields
pub mod KeyFrame
pub mod Operations
pub mod inner
pub mod RoundTrip
