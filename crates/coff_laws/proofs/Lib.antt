pub mod Kept
pub mod ObjectReads
pub mod RangeRefusals
pub mod SymbolKinds
pub mod Relocations
pub mod Written
