-- What the crate proves for others to cite: the laws of frames, of their lines, and of all frames of a sheet.
pub mod FrameLaws
pub mod FrameList
pub mod FrameNumbers
