pub mod Alike
pub mod Closed
