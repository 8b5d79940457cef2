pub mod Writes
pub mod OfKinds
pub mod Signed
pub mod Passed
pub mod Leads
pub mod Fills
