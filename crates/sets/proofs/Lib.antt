pub mod SearchLaws
pub mod ListLaws
pub mod BitLaws
pub mod RowLaws
pub mod WritingLaws
