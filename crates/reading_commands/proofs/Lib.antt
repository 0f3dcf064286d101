pub mod Endings
pub mod Attached
