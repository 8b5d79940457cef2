pub mod FormLaws
pub mod SameLaws
pub mod ScopeLaws
pub mod TypePlaces
pub mod VisitLaws
