pub mod Search
pub mod Lists
pub mod Bits
pub mod Rows
pub mod Writing
