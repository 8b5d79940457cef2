pub mod Numbers
pub mod Divisions
