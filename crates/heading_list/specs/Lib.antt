pub mod Collecting
pub mod Counting
pub mod Lines
pub mod Rows
pub mod Telling
pub mod Typed
pub mod Typing
