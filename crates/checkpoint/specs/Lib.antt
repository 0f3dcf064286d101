pub mod Format
pub mod Fronts
pub mod Parts
pub mod Points
pub mod Reading
pub mod Resuming
