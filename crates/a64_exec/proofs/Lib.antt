pub mod Bits
pub mod Comparisons
pub mod Parts
pub mod Signs
