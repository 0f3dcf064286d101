pub mod Reading
pub mod Preparing
pub mod Answers
pub mod FieldTexts
