-- What only inner functions need.
pub mod Making
