pub mod NameLemmas
pub mod Writes
pub mod Outputs
