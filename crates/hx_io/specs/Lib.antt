pub mod Streams
pub mod Files
pub mod Faults
pub mod Bounded
pub mod MemFiles
pub mod Plan
pub mod Known
pub mod Waiting
