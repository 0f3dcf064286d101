pub mod View
pub mod DiskLaws
pub mod Held
pub mod Gathering
