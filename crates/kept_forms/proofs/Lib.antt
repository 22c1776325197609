pub mod NumberLaws
pub mod WordLaws
pub mod QueryLaws
