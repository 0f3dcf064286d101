pub mod Kept
pub mod Outputs
