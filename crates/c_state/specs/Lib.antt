pub mod Extras
pub mod Seen
