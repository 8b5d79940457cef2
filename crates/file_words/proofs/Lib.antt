pub mod BelowLaws
pub mod PartLaws
pub mod FirstLaws
pub mod HasLaws
