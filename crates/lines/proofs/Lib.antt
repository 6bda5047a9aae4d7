-- Laws of runs, words and numbers.
pub mod Here
pub mod Classes
pub mod Tables
pub mod Runs
pub mod Numbers
pub mod Words
pub mod Walks
pub mod Heads
pub mod Parts
pub mod LinesLeft
