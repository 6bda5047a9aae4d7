-- A table's places as natural numbers, and what a table keeps.
pub mod Cells
-- The codes of a table from a place on, as an iterator.
pub mod Codes
