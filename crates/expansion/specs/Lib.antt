-- The expansion test over codes.
pub mod Codes
