-- Laws of crate mapping.
pub mod CopyLaws
pub mod RuleLaws
pub mod LineLaws
