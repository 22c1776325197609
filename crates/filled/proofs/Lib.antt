pub mod FilledLaws
pub mod Sentences
pub mod ReadRulesLaws
pub mod GivenSentences
pub mod FilledGuards
