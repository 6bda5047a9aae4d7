-- The variables of a list one by one, and which copies are mapped.
pub mod Numbers
pub mod Marks
