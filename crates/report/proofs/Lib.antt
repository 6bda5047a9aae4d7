-- Laws of numerals, of writing and of the fields.
pub mod Numerals
pub mod Writing
pub mod FieldsLaw
