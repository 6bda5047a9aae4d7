-- What the reading of a certificate comes to, whatever its kind.
pub mod Counting
pub mod Ends
pub mod Lines
