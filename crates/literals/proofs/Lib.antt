-- Laws of the line's literals against the clause's, and of marks.
pub mod Arms
pub mod MarkLaws
