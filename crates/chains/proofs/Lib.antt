-- The laws that belong to no one function.
pub mod ChainLaws
pub mod LeafLaws
pub mod LeafRecover
pub mod RowFront
pub mod StepLaws
