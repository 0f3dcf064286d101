pub mod Admission
pub mod ByTarget
pub mod Refusals
pub mod Shelves
