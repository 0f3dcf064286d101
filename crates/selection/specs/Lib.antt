pub mod Answers
pub mod Selections
