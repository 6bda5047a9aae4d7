-- Laws of the six tables.
pub mod Frames
pub mod Rooms
