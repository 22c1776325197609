pub mod Keeping
pub mod Blocks
