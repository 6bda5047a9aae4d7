-- What the contracts of crate deletion say.
pub mod Deletions
