-- The lists of a line, and lists in a table.
pub mod Lists
pub mod Measures
pub mod Stores
