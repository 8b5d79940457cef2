pub mod Headers
pub mod Space
pub mod Imports
pub mod Relocations
pub mod Hybrid
pub mod Stages
