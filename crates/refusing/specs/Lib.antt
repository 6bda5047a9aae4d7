-- What the contracts of crate refusing say, and the laws of its kind that crate certificates asks for.
pub mod Refusing
pub mod Laws
