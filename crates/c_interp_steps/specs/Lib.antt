pub mod Parts
pub mod Rests
pub mod Stack
pub mod Goes
