pub mod Decides
pub mod RegisterForms
