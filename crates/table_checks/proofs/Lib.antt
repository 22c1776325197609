pub mod FormLoops
