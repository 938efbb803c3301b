-- Write sheet.
pub mod Operations
