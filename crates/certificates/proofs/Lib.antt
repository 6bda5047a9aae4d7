-- Laws of the check of two files, for a kind's rules over both.
pub mod CheckLaws
