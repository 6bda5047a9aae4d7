-- Laws of the index of the matrix clauses.
pub mod IndexLaws
