-- Laws of the least t, and of the annotations against it.
pub mod HeldLaws
pub mod Arms
