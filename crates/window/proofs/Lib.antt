-- The laws of the window.
pub mod HistoryLaws
pub mod MarkLaws
pub mod WindowLaws
