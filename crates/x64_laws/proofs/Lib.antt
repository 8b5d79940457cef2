pub mod Compares
pub mod Forms
pub mod Quotients
pub mod Extensions
