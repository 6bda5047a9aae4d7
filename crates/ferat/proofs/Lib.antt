-- Laws of crate ferat.
pub mod LentLaws
pub mod ClauseLaws
pub mod HintsLaws
pub mod DeletionLaws
pub mod MappingLaws
pub mod KindLaws
pub mod LineLaws
pub mod CertificateLaws
pub mod StartLaws
pub mod CheckLaws
