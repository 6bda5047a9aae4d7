-- Laws of crate redundancy.
pub mod DenyLaws
pub mod BridgeLaws
pub mod AdditionLaws
