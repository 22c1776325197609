pub mod GroupSteps
pub mod GroupLines
pub mod GroupRuns
pub mod GroupParts
pub mod FirstBadLine
pub mod FileHeld
