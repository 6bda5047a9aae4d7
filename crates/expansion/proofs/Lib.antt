-- The meaning of the test.
pub mod Counting
pub mod Laws
pub mod ClauseLaws
