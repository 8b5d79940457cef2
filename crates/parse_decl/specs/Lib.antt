pub mod Ends
pub mod TypedDecls
pub mod Params
pub mod Inits
