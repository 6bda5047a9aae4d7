-- Laws of the order of lines, of hints and of the end.
pub mod OrderLaws
pub mod HintLaws
pub mod EndLaws
pub mod AptLaws
