pub mod ColumnLaws
pub mod PrintLaws
pub mod PageLineLaws
pub mod PageLineBytes
pub mod PageLaws
