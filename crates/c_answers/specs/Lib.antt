pub mod RefusalWords
pub mod ReadingTold
