pub mod Table
pub mod Registers
