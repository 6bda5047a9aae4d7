-- Laws of the text of a clause line.
pub mod ReasonLaws
pub mod DerivationLaws
