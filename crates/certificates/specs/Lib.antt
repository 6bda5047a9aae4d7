-- What the contracts of crate certificates say.
pub mod Kind
pub mod Check
