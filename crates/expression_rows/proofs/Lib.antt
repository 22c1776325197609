pub mod FillLaws
pub mod PermittedLaws
pub mod ScopeLaws
pub mod CheckLaws
pub mod RowsFilling
pub mod ColumnLaws
