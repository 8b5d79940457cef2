pub mod Blocks
pub mod FirstRuns
pub mod Ended
pub mod Names
pub mod Later
pub mod BuildLaws
pub mod PlanLaws
pub mod Claims
mod Fuel
mod InterpLaws
mod ImageLaws
