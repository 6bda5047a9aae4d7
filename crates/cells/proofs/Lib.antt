-- Laws of a table's places.
pub mod Laws
