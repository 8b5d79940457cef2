pub mod StmtGrammar
pub mod StmtParts
pub mod StmtMachine
