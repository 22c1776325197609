pub mod Numbering
pub mod FormWords
