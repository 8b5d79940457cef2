pub mod Places
pub mod Allowed
pub mod Format
