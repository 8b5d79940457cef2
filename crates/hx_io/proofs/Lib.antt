pub mod BoundedLaws
pub mod FaultLaws
pub mod StreamLaws
pub mod FileLaws
pub mod KnownLaws
