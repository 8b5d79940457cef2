pub mod EndLaws
pub mod DeclLaws
pub mod ParamsLaws
pub mod CapLaws
pub mod InitLaws
