-- Laws of crate trail.
pub mod TrailLaws
