-- What the indexes show.
pub mod Shown
