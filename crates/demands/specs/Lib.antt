pub mod FoundWritten
pub mod FoundConfiguration
pub mod PageLines
pub mod ExactlyOne
