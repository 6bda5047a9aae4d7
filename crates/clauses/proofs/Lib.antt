-- Laws of crate clauses.
pub mod LiteralLaws
pub mod StandingLaws
pub mod StoreLaws
pub mod MemberLaws
