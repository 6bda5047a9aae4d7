-- What the contracts of crate resolvents say.
pub mod Resolves
pub mod Marks
