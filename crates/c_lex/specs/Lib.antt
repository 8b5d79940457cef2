pub mod Numbering
pub mod Bytes
pub mod Spelling
pub mod Numbers
pub mod Quotes
pub mod Reading
pub mod Grammar
