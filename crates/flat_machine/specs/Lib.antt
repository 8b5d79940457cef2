pub mod Layout
pub mod Steps
pub mod Runs
pub mod Answers
pub mod States
