-- A report as seven numbers and as bytes, and what the functions inside write.
pub mod Fields
pub mod Written
