-- What the calls of this crate say.
pub mod Numbers
pub mod Ends
