pub mod Counts
pub mod Prefixes
pub mod LittleEndian
pub mod TwosComplement
