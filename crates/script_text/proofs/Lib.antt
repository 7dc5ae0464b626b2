-- Lemmas.
pub mod Bodies
pub mod Cuts
pub mod FirstFaults
pub mod LawfulConfigs
pub mod LawfulScripts
pub mod LentNames
pub mod LineCuts
pub mod LineFacts
pub mod Meanings
pub mod NameTexts
pub mod Naturals
pub mod PartFacts
pub mod PrintedTexts
pub mod Texts
pub mod WholeLines
