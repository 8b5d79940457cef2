pub mod Conditions
pub mod Forms
pub mod Reading
