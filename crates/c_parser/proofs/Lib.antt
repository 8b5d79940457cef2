pub mod TextLaws
pub mod MachineLaws
pub mod ReadingLaws
pub mod UnitLaws
pub mod AnswerLaws
