pub mod StageLaws
pub mod MetaLaws
pub mod SlotLaws
