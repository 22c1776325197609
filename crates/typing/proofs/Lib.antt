pub mod RowSearch
pub mod RowsVerdict
pub mod TypingSteps
