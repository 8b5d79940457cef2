pub mod Sizes
pub mod Rows
pub mod Symbols
pub mod Names
pub mod Flags
pub mod Validity
pub mod Walks
