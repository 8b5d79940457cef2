pub mod FirstForm
pub mod Scanning
pub mod Reading
pub mod FirstUnit
pub mod Services
pub mod FirstCode
