pub mod HereLaws
pub mod AnswerLaws
