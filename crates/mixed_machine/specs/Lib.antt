pub mod Maps
pub mod States
pub mod Answers
