pub mod Sparing
pub mod FoundAt
