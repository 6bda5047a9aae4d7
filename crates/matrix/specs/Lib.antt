-- Where the clauses of the matrix start in its table.
pub mod Index
