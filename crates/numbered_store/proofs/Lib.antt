pub mod Tied
pub mod Ordered
pub mod Slotted
pub mod Shelving
pub mod Growing
pub mod Listed
pub mod Keeping
pub mod Changed
