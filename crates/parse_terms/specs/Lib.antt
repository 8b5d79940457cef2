pub mod Terminals
pub mod Integers
pub mod TypeNames
pub mod Declarators
pub mod Runs
