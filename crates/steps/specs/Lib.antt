-- What judging what is stored says.
pub mod Stands
pub mod Judges
pub mod Expands
