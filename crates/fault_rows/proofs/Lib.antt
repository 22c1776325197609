pub mod ClashLaws
pub mod FaultLaws
pub mod FormLaws
pub mod FoundLaws
pub mod TypeLaws
pub mod FailLaws
