-- Laws of the lists of a line, of the forms of the rules, and of lists in a table.
pub mod ListLaws
pub mod NaturalLaws
pub mod FormLaws
pub mod StoreLaws
