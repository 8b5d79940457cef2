pub mod TokenLaws
pub mod PieceLaws
pub mod UnitLaws
