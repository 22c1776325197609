pub mod HoldLaws
pub mod ListLaws
pub mod PreparedLaws
pub mod JoinedLaws
