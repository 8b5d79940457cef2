pub mod RunLaws
pub mod TypeLaws
