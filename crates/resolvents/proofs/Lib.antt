-- Laws of crate resolvents.
pub mod WalkLaws
pub mod MarkLaws
pub mod DecisionLaws
pub mod AnswerLaws
pub mod RulesLaws
