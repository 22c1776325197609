pub mod TypingAt
pub mod Here
