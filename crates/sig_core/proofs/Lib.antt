pub mod Steps
pub mod Fitting
pub mod Spans
pub mod SlotLaws
pub mod RegisterLaws
pub mod CodeLaws
