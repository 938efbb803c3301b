-- What the crate proves for others to cite: the bytes of a key, the frames that are right, what Read key and Write key answer, and what they are to each other.
pub mod BytesLaws
pub mod KeyLaws
pub mod ReadAnswer
pub mod RoundTrip
pub mod StoredLaws
pub mod WriteAnswer
