pub mod Definitions
pub mod Courses
pub mod Answers
pub mod Plans
