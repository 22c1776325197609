pub mod BlockLaws
pub mod ProjectLaws
pub mod RelationLaws
pub mod ProjectSets
