pub mod ItemGrammar
pub mod ItemParts
pub mod DeclarationMachines
pub mod BodyAnswers
pub mod UnitMachine
pub mod UnitAnswers
pub mod BodyVerdicts
