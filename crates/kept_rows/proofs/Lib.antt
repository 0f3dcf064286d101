pub mod Adjacent
pub mod Classes
pub mod Sounds
pub mod Outside
pub mod Headings
pub mod Told
pub mod Places
pub mod Shorts
