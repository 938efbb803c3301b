-- The laws that belong to no one function.
pub mod Answers
pub mod PlaceAnswer
pub mod RecoverLaws
pub mod StepLaws
