pub mod ArgumentLaws
pub mod CallLaws
