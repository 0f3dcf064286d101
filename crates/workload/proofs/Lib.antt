pub mod Counts
pub mod Plain
pub mod Sound
pub mod States
