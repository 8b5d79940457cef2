pub mod StackLaws
pub mod CostLaws
pub mod PlaceLaws
pub mod ValueEntries
pub mod StatementLaws
pub mod TurnLaws
pub mod LoopLaws
