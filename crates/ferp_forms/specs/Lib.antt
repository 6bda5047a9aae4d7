-- What the contracts of crate ferp_forms say.
pub mod Forms
