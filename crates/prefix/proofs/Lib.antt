-- Laws of the prefix table.
pub mod Marks
pub mod Laws
pub mod TableLaws
