pub mod TypingEach
