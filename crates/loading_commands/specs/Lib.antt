pub mod Inputs
pub mod Outcomes
pub mod Console
pub mod Merged
pub mod Texts
pub mod Runs
pub mod Outputs
pub mod Loading
