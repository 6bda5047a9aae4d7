-- The line's literals against the clause's, and marks.
pub mod Literals
pub mod Marks
