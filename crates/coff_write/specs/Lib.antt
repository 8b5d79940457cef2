pub mod Format
pub mod Valid
