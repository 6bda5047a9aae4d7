-- The six tables, the six as a call lends them, and the promise of a check in them.
pub mod Tables
pub mod Lent
pub mod Checked
