pub mod ExpressionRows
pub mod TypingReads
pub mod RowRules
pub mod SplitTables
