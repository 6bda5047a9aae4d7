-- Laws of the codes of a list in a buffer.
pub mod BufferLaws
