pub mod ReadLaws
pub mod ListLaws
pub mod GatheredLaws
pub mod SetLaws
pub mod FormSetLaws
