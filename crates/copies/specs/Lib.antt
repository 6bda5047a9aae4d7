-- What the tables say of a copy, and marks.
pub mod Marks
pub mod Copies
