pub mod Endings
pub mod Taken
