-- Laws of marks, of what a test chooses, and of membership.
pub mod MarkLaws
pub mod Choices
pub mod Members
