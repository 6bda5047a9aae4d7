-- Laws of the variables of a list, and of the copies that are mapped.
pub mod NumberLaws
pub mod MarkLaws
