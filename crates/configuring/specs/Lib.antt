pub mod Promises
pub mod AfterTyping
