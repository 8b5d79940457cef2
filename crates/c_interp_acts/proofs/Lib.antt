pub mod MachineLaws
pub mod TieLaws
pub mod StartLaws
pub mod CallLaws
pub mod ConstantLaws
pub mod SumLaws
