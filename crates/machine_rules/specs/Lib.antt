pub mod Layout
pub mod State
pub mod Steps
pub mod Runs
pub mod Loads
pub mod Laws
