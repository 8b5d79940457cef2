pub mod Sums
pub mod Quarters
pub mod Forms
