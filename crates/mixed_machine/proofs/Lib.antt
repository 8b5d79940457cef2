pub mod Running
pub mod Starting
pub mod Ending
pub mod Returning
