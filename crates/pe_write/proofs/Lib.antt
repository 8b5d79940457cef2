pub mod ZeroLaws
pub mod SameLaws
pub mod PlaceLaws
pub mod SlotLaws
pub mod BlockWalk
pub mod SiteLaws
