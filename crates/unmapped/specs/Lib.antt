-- What the contract of crate unmapped says.
pub mod Copies
