pub mod ColumnLines
pub mod Page
pub mod PageRows
