pub mod LateReads
