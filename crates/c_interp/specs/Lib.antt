pub mod Means
pub mod Walked
