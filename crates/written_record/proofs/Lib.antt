pub mod Parts
pub mod Rewritten
