pub mod NodeLaws
pub mod UnitLaws
pub mod DefinedLaws
