pub mod Signatures
pub mod Places
pub mod Slots
pub mod Registers
pub mod Codes
pub mod Rows
