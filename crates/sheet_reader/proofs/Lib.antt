-- What the crate proves for others to cite: the right sheets are those that are read; and the laws of its functions.
pub mod Exactness
pub mod Example
pub mod OtherProfile
pub mod JudgeLaws
pub mod PayloadLaws
pub mod SheetAnswer
