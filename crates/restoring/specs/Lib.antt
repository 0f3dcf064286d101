pub mod Drafts
pub mod Feeding
pub mod Resting
pub mod Restoring
pub mod Resuming
pub mod Writing
