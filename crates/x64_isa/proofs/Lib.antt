pub mod Bytes
pub mod FieldLaws
pub mod Readers
pub mod OperandLaws
pub mod FormReaders
pub mod Again
pub mod Exact
