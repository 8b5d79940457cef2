pub mod Fields
pub mod Allowed
pub mod Reading
pub mod Format
