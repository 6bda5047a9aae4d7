-- What the contracts of crate propagation say.
pub mod Answers
