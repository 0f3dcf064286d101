pub mod Looking
pub mod Unheld
