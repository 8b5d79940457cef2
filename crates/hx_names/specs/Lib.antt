pub mod Mangling
pub mod Pieces
