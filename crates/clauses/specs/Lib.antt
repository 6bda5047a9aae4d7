-- What the contracts of crate clauses say.
pub mod Standing
