pub mod FormedTypes
pub mod Unlike
