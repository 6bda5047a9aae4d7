-- Laws of rule 9.
pub mod CopyLaws
