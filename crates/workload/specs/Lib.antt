pub mod Draws
pub mod Drafts
pub mod Records
pub mod Workload
