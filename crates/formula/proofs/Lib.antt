-- Laws of the reader of a formula.
pub mod TableLaws
pub mod PrefixLaws
pub mod LineKinds
pub mod Steps
pub mod ClauseLaws
pub mod BindingLaws
pub mod ProblemLaws
pub mod OneLine
pub mod FileLaws
pub mod ShownLaws
