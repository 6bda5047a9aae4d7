-- What the prefix table says.
pub mod Prefix
