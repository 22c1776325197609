pub mod AttributeRows
pub mod RowRules
