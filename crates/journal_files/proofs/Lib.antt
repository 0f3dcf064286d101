pub mod Faults
pub mod Journals
pub mod Histories
pub mod Turns
