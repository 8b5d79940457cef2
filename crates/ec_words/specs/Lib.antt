pub mod Table
pub mod Rule
pub mod Numbers
pub mod Markings
pub mod Commands
pub mod Given
pub mod Parse
pub mod Laws
