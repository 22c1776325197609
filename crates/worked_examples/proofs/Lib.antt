pub mod RowExamplesHold
pub mod FindExamplesHold
pub mod PageExamplesHold
