-- What the listing prints: the steps of its functions, how many lines there are, that only the first line counts, and the document's example.
pub mod Answers
pub mod Example
pub mod FirstLine
pub mod Reading
pub mod Requests
pub mod Rows
