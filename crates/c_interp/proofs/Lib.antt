pub mod WakingLaws
pub mod RunLaws
