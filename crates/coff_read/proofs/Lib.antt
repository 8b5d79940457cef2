pub mod KeptLaws
pub mod ComdatLaws
pub mod PlaceLaws
pub mod StageLaws
