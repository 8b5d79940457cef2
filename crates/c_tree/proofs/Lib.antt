pub mod HeightLaws
pub mod Tallest
