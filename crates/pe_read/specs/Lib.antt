pub mod Refusals
pub mod Images
pub mod Stages
