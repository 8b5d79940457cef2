pub mod ValueForms
pub mod WakeLaws
