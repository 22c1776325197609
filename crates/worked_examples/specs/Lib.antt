pub mod RowExamples
pub mod Harbours
pub mod FindExamples
pub mod PageExamples
