pub mod Unheld
pub mod Working
