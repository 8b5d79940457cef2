pub mod Below
pub mod Fields
pub mod Firsts
pub mod Standing
