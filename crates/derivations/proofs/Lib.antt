-- Laws of the judging of clause lines.
pub mod LimitLaws
pub mod CodeLaws
pub mod RuleLaws
pub mod StandLaws
pub mod JudgeLaws
pub mod AptLaws
