pub mod JoinLaws
pub mod WalkLaws
pub mod ReachRows
