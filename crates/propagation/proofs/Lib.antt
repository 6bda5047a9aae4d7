-- Laws of crate propagation.
pub mod MoveLaws
pub mod AnswerLaws
pub mod ClauseLaws
pub mod HeldLaws
pub mod LookLaws
