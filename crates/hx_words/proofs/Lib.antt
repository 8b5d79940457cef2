pub mod LittleEndianLaws
pub mod TwosComplementLaws
