-- Laws of the indexes.
pub mod IndexLaws
