-- What the contracts of crate ferat say.
pub mod Kinds
pub mod Lines
pub mod Certificate
pub mod Check
