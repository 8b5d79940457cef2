pub mod Steady
pub mod Grows
pub mod Steps
mod Examples
