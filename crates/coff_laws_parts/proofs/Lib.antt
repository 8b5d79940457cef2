pub mod Parts
pub mod Sections
pub mod SectionReads
pub mod HybridReads
pub mod SymbolReads
pub mod FileReads
pub mod Sites
