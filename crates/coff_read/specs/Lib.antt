pub mod Kept
pub mod Refusals
pub mod Objects
pub mod Stages
