pub mod ScanLaws
pub mod LineSteps
pub mod SpelledNumbers
pub mod SpelledLines
