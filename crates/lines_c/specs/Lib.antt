-- What reading alone answers.
pub mod Largest
