pub mod FieldLaws
pub mod ReadLaws
pub mod Sizes
pub mod Written
pub mod ReadAllowed
