pub mod ValueTypeLaws
pub mod NodeLaws
pub mod ByteLaws
