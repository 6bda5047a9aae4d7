-- Laws of a list of checks.
pub mod Runs
pub mod ListLaws
pub mod Examples
