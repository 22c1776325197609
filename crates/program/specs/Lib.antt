pub mod Running
pub mod Streams
