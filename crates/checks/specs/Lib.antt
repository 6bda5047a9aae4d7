-- What a list of checks comes to.
pub mod Runs
pub mod All
pub mod One
