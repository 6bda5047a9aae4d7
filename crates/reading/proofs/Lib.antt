-- Laws of the reading of a certificate, whatever its kind.
pub mod StageLaws
pub mod GoingLaws
pub mod HeadLaws
pub mod LineLaws
pub mod MappingLaws
pub mod ReadLaws
