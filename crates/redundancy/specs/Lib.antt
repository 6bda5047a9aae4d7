-- What the contracts of crate redundancy say.
pub mod Additions
