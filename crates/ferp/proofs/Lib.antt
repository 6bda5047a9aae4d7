-- Laws of the check of a FERP certificate.
pub mod KindLaws
pub mod MappingLaws
pub mod ClauseLaws
pub mod CertificateLaws
pub mod StartLaws
pub mod CheckLaws
