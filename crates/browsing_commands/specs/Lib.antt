pub mod Pages
pub mod Browses
pub mod Browsing
