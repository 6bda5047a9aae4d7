-- What the contracts of crate ferp say.
pub mod Kinds
pub mod Lines
pub mod Certificate
pub mod Check
