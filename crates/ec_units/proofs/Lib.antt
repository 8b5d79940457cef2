pub mod TextLaws
pub mod UnitLaws
pub mod VerdictLaws
