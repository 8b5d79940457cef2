pub mod Pieces
pub mod UnitPieces
