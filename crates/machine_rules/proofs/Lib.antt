pub mod Running
pub mod Keeping
pub mod KeepingA64
pub mod Stepping
