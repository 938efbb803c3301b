-- What a sheet is: its frames, their lines, and how many bytes each has.
pub mod Kinds
pub mod Frames
pub mod Lines
pub mod inner
