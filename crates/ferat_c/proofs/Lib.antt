-- Laws of the calls of this crate.
pub mod EndsLaws
