-- Laws of judging what is stored.
pub mod JudgeLaws
pub mod StandLaws
pub mod ExpandLaws
pub mod AddLaws
pub mod DeleteLaws
