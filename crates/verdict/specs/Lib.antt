-- What the contracts of the program say.
pub mod Program
