-- The theorems about the rules of FERP certificates.
pub mod ResolventLaws
pub mod ExpansionLaws
pub mod FormLaws
pub mod Ranges
pub mod Sound
pub mod Theorem
