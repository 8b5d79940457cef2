pub mod SectionLaws
pub mod ImportLaws
pub mod LoadLaws
