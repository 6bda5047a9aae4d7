-- Laws of rule 8.
pub mod AnnotationLaws
mod RisingLaws
