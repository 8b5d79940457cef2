pub mod OperandLaws
pub mod PlaceLaws
pub mod FoundLaws
pub mod AgainLaws
pub mod TableLaws
