pub mod Kept
pub mod Changing
pub mod Lent
pub mod Rows
pub mod Numbered
