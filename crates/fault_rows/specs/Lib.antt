pub mod FaultRows
pub mod FaultRules
