-- Laws of crate deletion.
pub mod DeletionLaws
