-- What the contracts of crate derivations say.
pub mod Shown
pub mod Limits
pub mod Rules
pub mod Judges
