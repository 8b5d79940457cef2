pub mod OpenLaws
pub mod TakenLaws
pub mod RunLaws
