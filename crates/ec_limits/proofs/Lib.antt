pub mod Greatest
pub mod Telling
