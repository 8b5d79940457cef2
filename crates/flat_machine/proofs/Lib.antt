pub mod Returns
pub mod Places
pub mod Running
pub mod Stepping
pub mod Starting
pub mod Unrolled
