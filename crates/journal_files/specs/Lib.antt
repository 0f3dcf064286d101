pub mod Journals
pub mod Faults
pub mod Taking
