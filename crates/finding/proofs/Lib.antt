pub mod WantedLaws
pub mod FindLaws
