pub mod Growth
pub mod Runs
pub mod LabelLaws
pub mod ValidLaws
pub mod SignatureLaws
