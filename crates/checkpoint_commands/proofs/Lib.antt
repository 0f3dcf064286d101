pub mod Frames
pub mod Taken
pub mod Added
pub mod Files
pub mod Written
pub mod Over
pub mod Endings
pub mod Exports
