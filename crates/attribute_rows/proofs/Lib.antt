pub mod AttributeLaws
pub mod GatheredLaws
pub mod ListedLaws
pub mod SetLaws
