pub mod ExprLaws
pub mod StmtLaws
pub mod InitLaws
pub mod Rows
pub mod LoopLaws
