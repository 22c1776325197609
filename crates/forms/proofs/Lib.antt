pub mod Lists
pub mod Marks
pub mod Queries
pub mod Chain
