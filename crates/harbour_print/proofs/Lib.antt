pub mod PrintedLaws
pub mod LayoutLaws
