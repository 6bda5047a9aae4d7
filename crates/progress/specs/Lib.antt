-- What is carried from line to line.
pub mod Order
pub mod Shown
