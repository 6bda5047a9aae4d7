-- Bytes, lines, tokens and numbers: what the whole project cites.
pub mod Lists
pub mod Bytes
pub mod Lines
pub mod Scan
pub mod Parts
pub mod Each
pub mod Literals
