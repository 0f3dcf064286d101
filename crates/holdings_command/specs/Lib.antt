pub mod Shelving
pub mod Lines
pub mod Ready
pub mod Attaching
pub mod Writing
