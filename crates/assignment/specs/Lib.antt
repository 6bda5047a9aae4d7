-- The least t as marks and as a list, and the annotations against it.
pub mod Held
pub mod Least
pub mod Annotations
