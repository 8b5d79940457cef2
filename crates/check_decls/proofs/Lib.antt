pub mod NumberLaws
pub mod FieldLaws
pub mod LoopEnds
pub mod PartLaws
pub mod TakenLaws
pub mod AdjustorLaws
pub mod TagLaws
