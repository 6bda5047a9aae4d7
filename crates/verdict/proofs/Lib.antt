-- Laws of the program.
pub mod LimitLaws
