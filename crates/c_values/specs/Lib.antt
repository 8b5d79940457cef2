pub mod formers
pub mod Numbers
pub mod Objects
pub mod Worked
