pub mod Segments
pub mod Space
pub mod Found
pub mod Refusals
