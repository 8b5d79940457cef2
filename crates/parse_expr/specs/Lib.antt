pub mod Operators
pub mod ExprGrammar
pub mod Parts
pub mod ExprMachine
