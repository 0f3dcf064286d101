pub mod Browsing
pub mod Rules
