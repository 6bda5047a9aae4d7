-- Rule 8.
pub mod Annotation
