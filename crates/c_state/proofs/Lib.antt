pub mod FrameLaws
pub mod PartLaws
