pub mod Refusals
pub mod Loading
