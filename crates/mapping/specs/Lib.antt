-- What the contracts of crate mapping say.
pub mod Stores
pub mod Shown
pub mod MappingLine
