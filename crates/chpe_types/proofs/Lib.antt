pub mod Neighbours
pub mod Points
