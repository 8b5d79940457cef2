pub mod RuleLemmas
pub mod NumberLemmas
pub mod Steps
pub mod Walks
pub mod Found
