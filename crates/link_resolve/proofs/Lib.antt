pub mod IndexLaws
pub mod KeepingLaws
pub mod NameLaws
