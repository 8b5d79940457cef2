pub mod Costs
pub mod Charge
pub mod States
pub mod Rules
pub mod Start
pub mod Source
pub mod Laws
pub mod Worked
