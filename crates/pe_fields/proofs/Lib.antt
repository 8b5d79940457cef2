pub mod SpaceLaws
pub mod ImportLaws
pub mod BlockLaws
pub mod PageLaws
