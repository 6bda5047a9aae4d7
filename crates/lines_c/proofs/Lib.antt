-- Laws of the largest literal.
pub mod Laws
