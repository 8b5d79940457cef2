pub mod Symbols
pub mod Names
pub mod Meaning
pub mod Refusals
pub mod Resolution
pub mod Index
pub mod Lookups
