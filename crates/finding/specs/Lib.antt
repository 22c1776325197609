pub mod Finding
pub mod ColumnSearch
