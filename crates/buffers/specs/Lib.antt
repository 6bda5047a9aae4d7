-- What the contracts of crate buffers say.
pub mod Buffers
