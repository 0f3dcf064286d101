pub mod Brought
pub mod Crosses
pub mod Former
pub mod Members
pub mod Ordered
pub mod Pages
pub mod Tables
