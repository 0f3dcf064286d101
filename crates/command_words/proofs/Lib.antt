pub mod Commands
pub mod Digits
pub mod Readings
pub mod Requests
