pub mod AtConfiguration
