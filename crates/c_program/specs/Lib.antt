pub mod ValueTypes
pub mod Nodes
pub mod FrameBytes
pub mod Named
