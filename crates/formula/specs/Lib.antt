-- What the reader of a formula promises.
pub mod Quantifiers
pub mod Tables
pub mod Holds
pub mod Judged
pub mod Answers
pub mod Shown
