pub mod OperatorLaws
pub mod PartLaws
pub mod ExprComplete
pub mod ExprSound
pub mod ExprViable
pub mod ReduceLaws
